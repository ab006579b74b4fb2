-- What is gathered by owners is what the indices have.
use Rattle.std.proofs.Common.{◌≡◌, ℕ, zero, suc, ◌+◌, ◌==◌, ◌<◌, ◌≤◌, Bool, true, false, List, [], ◌++◌, arith, refl, ◌∙◌, if◌then◌else◌}
use Rattle.std.proofs.Math.Dec.{eqb-suc-suc, eqb-suc-zero, eqb-zero-suc}
use Rattle.squawk_output.proofs.Gathered.{each, gathered, picked}

-- the sum of the first n numbers
abbrev pub total : (ℕ → ℕ) → ℕ → ℕ
total s zero = 0
total s (suc n) = s 0 + total (λ i. s (suc i)) n

pub total-most : (s t : ℕ → ℕ) (n : ℕ) → ((i : ℕ) → s i ≤ t i) → total s n ≤ total t n
total-most s t zero most = omega arith
total-most s t (suc n) most = omega (arith, most 0, total-most (λ i. s (suc i)) (λ i. t (suc i)) n (λ i. most (suc i)))

total-add : (s t : ℕ → ℕ) (n : ℕ) → total (λ i. s i + t i) n ≡ total s n + total t n
total-add s t zero = refl
total-add s t (suc n) = omega (arith, total-add (λ i. s (suc i)) (λ i. t (suc i)) n)

total-none : (n : ℕ) → total (λ i. 0) n ≡ 0
total-none zero = refl
total-none (suc n) = omega (arith, total-none n)

pub total-same : (s t : ℕ → ℕ) (n : ℕ) → ((i : ℕ) → s i ≡ t i) → total s n ≡ total t n
total-same s t zero same = refl
total-same s t (suc n) same = omega (arith, same 0, total-same (λ i. s (suc i)) (λ i. t (suc i)) n (λ i. same (suc i)))

-- one index alone has something
pub total-one : (index most n : ℕ) → (total (λ i. if index == i then most else 0) n ≤ most) × (index < n → total (λ i. if index == i then most else 0) n ≡ most)
total-one index most zero = (omega arith, λ lt. absurd (omega arith))
total-one zero most (suc n) =
    let rest : total (λ i. if zero == suc i then most else 0) n ≡ 0 =
    total-same (λ i. if zero == suc i then most else 0) (λ i. 0) n (λ i. rw (eqb-zero-suc i) refl) ∙ total-none n in
    (omega (arith, rest), λ lt. omega (arith, rest))
total-one (suc index) most (suc n) =
    let first : (if suc index == zero then most else 0) ≡ 0 = rw (eqb-suc-zero index) refl in
    let rest : total (λ i. if suc index == suc i then most else 0) n ≡ total (λ i. if index == i then most else 0) n =
    total-same (λ i. if suc index == suc i then most else 0) (λ i. if index == i then most else 0) n (λ i. rw (eqb-suc-suc index i) refl) in
    let one = total-one index most n in
    (omega (arith, first, rest, one.0), λ lt. omega (arith, first, rest, one.1 (omega arith)))

pub total-ones : (n : ℕ) → total (λ i. 1) n ≡ n
total-ones zero = refl
total-ones (suc n) = omega (arith, total-ones n)

-- the sum over owners of what they own
total-owned : (own s : ℕ → ℕ) (m n : ℕ) → ((j : ℕ) → j < n → own j < m) → total (λ i. total (λ j. if own j == i then s j else 0) n) m ≡ total s n
total-owned own s m zero within = total-none m
total-owned own s m (suc n) within =
    omega (
      arith,
      total-add (λ i. if own 0 == i then s 0 else 0) (λ i. total (λ j. if own (suc j) == i then s (suc j) else 0) n) m,
      (total-one (own 0) (s 0) m).1 (within 0 (omega arith)),
      total-owned (λ j. own (suc j)) (λ j. s (suc j)) m n (λ j lt. within (suc j) (omega arith)),
    )

module _ {X : Type 0} (size : List X → ℕ) (none : size [] ≡ 0) (add : (xs ys : List X) → size (xs ++ ys) ≡ size xs + size ys) where
  size-if : (b : Bool) (xs : List X) → size (if b then xs else []) ≡ (if b then size xs else 0)
  size-if true xs = refl
  size-if false xs = none

  size-picked : (p : ℕ → Bool) (items : ℕ → List X) (n : ℕ) → size (picked p items n) ≡ total (λ j. if p j then size (items j) else 0) n
  size-picked p items zero = none
  size-picked p items (suc n) =
      omega (
        arith,
        add (picked (λ j. p (suc j)) (λ j. items (suc j)) n) (if p 0 then items 0 else []),
        size-if (p 0) (items 0),
        size-picked (λ j. p (suc j)) (λ j. items (suc j)) n,
      )

  size-each : (items : ℕ → List X) (n : ℕ) → size (each items n) ≡ total (λ i. size (items i)) n
  size-each items zero = none
  size-each items (suc n) = omega (arith, add (items 0) (each (λ i. items (suc i)) n), size-each (λ i. items (suc i)) n)

  pub size-gathered : (own : ℕ → ℕ) (items : ℕ → List X) (n : ℕ) → ((j : ℕ) → j < n → own j < n) → size (gathered own items n) ≡ total (λ j. size (items j)) n
  size-gathered own items n within =
      size-each (λ i. picked (λ j. own j == i) items n) n
      ∙ (total-same (λ i. size (picked (λ j. own j == i) items n)) (λ i. total (λ j. if own j == i then size (items j) else 0) n) n (λ i. size-picked (λ j. own j == i) items n)
      ∙ total-owned own (λ j. size (items j)) n n within)
