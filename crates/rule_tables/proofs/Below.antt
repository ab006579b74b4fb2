-- The greatest number below another that passes a test.
use Rattle.std.proofs.Common.{◌≡◌, ℕ, zero, suc, ◌<◌, ◌≤◌, Bool, true, false, inl, inr, Option, Some, None, arith, refl, sym, ◌∙◌}
use Rattle.std.proofs.lemmas.Bool.{cases_Bool, cases_eq}
use Rattle.rule_tables.specs.Places.{last_below}

-- one more than a number, or 0 without one
abbrev pub rank : Option ℕ → ℕ
rank None = zero
rank (Some n) = suc n

pub last_yes : (p : ℕ → Bool) (n : ℕ) → p n ≡ true → last_below p (suc n) ≡ Some n
last_yes p n yes_p = rw yes_p refl

pub last_no : (p : ℕ → Bool) (n : ℕ) → p n ≡ false → last_below p (suc n) ≡ last_below p n
last_no p n no_p = rw no_p refl

-- it is below
pub rank-below : (p : ℕ → Bool) (n : ℕ) → rank (last_below p n) ≤ n
rank-below p zero = omega arith
rank-below p (suc n) =
    elim (cases_Bool (p n)) [
      | inl has ↦ rw (last_yes p n has) (omega arith)
      | inr lacks ↦ let before : rank (last_below p n) ≤ n = rank-below p n in rw (last_no p n lacks) (omega arith)
    ]

-- a stronger test passes first where a weaker one does, or later
pub last-within : (p q : ℕ → Bool) (n : ℕ) → ((k : ℕ) → k < n → p k ≡ true → q k ≡ true) → last_below p n ≡ last_below p (rank (last_below q n))
last-within p q zero weaker = refl
last-within p q (suc n) weaker =
    elim (cases_Bool (q n)) [
      | inl has ↦ rw (last_yes q n has) refl
      | inr lacks ↦
          elim (cases_Bool (p n)) [
            | inl passes ↦ let has : q n ≡ true = weaker n (omega arith) passes in absurd cc
            | inr fails ↦ rw (last_no q n lacks) (last_no p n fails ∙ last-within p q n (λ k lt. weaker k (omega arith)))
          ]
    ]

-- it passes, and is below
pub last-some : (p : ℕ → Bool) (n r : ℕ) → last_below p n ≡ Some r → (r < n) × (p r ≡ true) × ((k : ℕ) → r < k → k < n → p k ≡ false)
last-some p zero r e = absurd cc
last-some p (suc n) r e =
    elim (cases_Bool (p n)) [
      | inl has ↦
          let same : n ≡ r = let found : Some n ≡ Some r = sym (last_yes p n has) ∙ e in cc in
          (omega arith, rw (← same) has, λ k more less. absurd (omega arith))
      | inr lacks ↦
          let before : (r < n) × (p r ≡ true) × ((k : ℕ) → r < k → k < n → p k ≡ false) = last-some p n r (sym (last_no p n lacks) ∙ e) in (
            omega (arith, before.0),
            before.1,
            λ k more less. elim (cases_eq k n) [ inl same ↦ rw same lacks | inr other ↦ before.2 k more (omega arith) ],
          )
    ]

-- nothing passes
pub last-none : (p : ℕ → Bool) (n : ℕ) → last_below p n ≡ None → (k : ℕ) → k < n → p k ≡ false
last-none p zero e k lt = absurd (omega arith)
last-none p (suc n) e k lt =
    elim (cases_Bool (p n)) [
      | inl has ↦ let found : Some n ≡ None = sym (last_yes p n has) ∙ e in absurd cc
      | inr lacks ↦ elim (cases_eq k n) [ inl same ↦ rw same lacks | inr other ↦ last-none p n (sym (last_no p n lacks) ∙ e) k (omega arith) ]
    ]
