-- What a set of token kinds has, by its words.
use Rattle.std.proofs.Common.{[], All, leb-false, leb, ◌≡◌, ℕ, ◌*◌, ◌/◌, ◌%◌, ◌^◌, ◌<◌, ◌≤◌, max, false, ◌||◌, ◌==◌, ◌∙◌, ap, sym, refl, inl, inr, List, length, get_or, set, bit_and, bit_or, arith, leb-true, le-leb, eq-eqb, ne_eqb, eqb-true, get_or-set_same, get_or-set_other, IsTrue, ◌↔◌}
use Rattle.std.specs.List.{list_any}
use Rattle.std.proofs.lemmas.List.Folds.{list_any_none}
use Rattle.std.specs.Int.{bit_at, w64}
use Rattle.std.proofs.lemmas.Bool.{cases_eq, cases_Bool, and_parts}
use Rattle.std.proofs.lemmas.Bool.Decides.{nat_tests}
use Rattle.std.proofs.lemmas.Nat.Bits.{bit_at-zero, shr_and_one, bit_at_or, bit_at-lt, bit_at_set_same, bit_at_set_other}
use Rattle.squawk_kinds.specs.Kinds.{IsTokenKind, WHITESPACE}
use Rattle.std.proofs.lemmas.List.{get_or-replicate}
use Rattle.squawk_kinds.specs.TokenSets.{has, no_kinds}

-- bit k of the words
abbrev pub bit_of : List ℕ → ℕ → ℕ
bit_of words k = bit_at (get_or words (k / 64) 0) (k % 64)

-- whether the words have a token kind
pub has-token : (words : List ℕ) (k : ℕ) → k ≤ WHITESPACE → has words k ≡ (bit_of words k == 1)
unfolding has
has-token words k le = rw (le-leb k WHITESPACE le) refl

-- no other kind is in a set
pub has-other : (words : List ℕ) (k : ℕ) → WHITESPACE < k → has words k ≡ false
unfolding has
has-other words k lt = grind (arith, nat_tests)

-- what the code tests
pub has-shifted : (words : List ℕ) (k : ℕ) → k < 640 → (bit_and (get_or words (k / 64) 0 / 2 ^ (k % 64)) 1 == 1) ≡ has words k
has-shifted words k lt = rw (shr_and_one (get_or words (k / 64) 0) (k % 64)) (sym (has-token words k (omega arith)))

max_is_one : (a b : ℕ) → a < 2 → b < 2 → (max a b == 1) ≡ ((a == 1) || (b == 1))
max_is_one a b la lb = grind (arith, nat_tests)

-- words that have the bits of two sets have the kinds of both
pub has-or : (a b both : List ℕ) → ((i : ℕ) → i < 10 → get_or both i 0 ≡ bit_or (get_or a i 0) (get_or b i 0)) → (k : ℕ) → has both k ≡ (has a k || has b k)
unfolding has
has-or a b both each k =
    elim (cases_Bool (leb k WHITESPACE)) [
      | inl small ↦
          let le : k ≤ WHITESPACE = leb-true k WHITESPACE small in
          rw (small, each (k / 64) (omega arith), bit_at_or (get_or a (k / 64) 0) (get_or b (k / 64) 0) (k % 64))
          (max_is_one _ _ (bit_at-lt (get_or a (k / 64) 0) (k % 64)) (bit_at-lt (get_or b (k / 64) 0) (k % 64)))
      | inr large ↦ rw large refl
    ]

-- the words with bit n set
abbrev pub with_bit : List ℕ → ℕ → List ℕ
with_bit words n = set words (n / 64) (bit_or (get_or words (n / 64) 0) (1 * 2 ^ (n % 64) % 18446744073709551616))

with_bit-same : (words : List ℕ) (n : ℕ) → n / 64 < length words → bit_of (with_bit words n) n ≡ 1
with_bit-same words n lt = rw get_or-set_same (bit_at_set_same w64 (get_or words (n / 64) 0) (n % 64) (omega arith))

with_bit-in_word : (words : List ℕ) (n k : ℕ) → n / 64 < length words → k / 64 ≡ n / 64 → (k ≡ n → ⊥) → bit_of (with_bit words n) k ≡ bit_of words k
with_bit-in_word words n k lt e ne =
    let other : k % 64 ≡ n % 64 → ⊥ = λ h. ne (omega arith) in
    rw (e, get_or-set_same) (bit_at_set_other w64 (get_or words (n / 64) 0) (n % 64) (omega arith) (k % 64) other)

with_bit-other : (words : List ℕ) (n k : ℕ) → n / 64 < length words → (k ≡ n → ⊥) → bit_of (with_bit words n) k ≡ bit_of words k
with_bit-other words n k lt ne =
    elim (cases_eq (k / 64) (n / 64)) [
      | inl e ↦ with_bit-in_word words n k lt e ne
      | inr away ↦ ap (λ word. bit_at word (k % 64)) (get_or-set_other words (n / 64) (k / 64) _ 0 away)
    ]

-- one bit more
pub with_bit-is : (words : List ℕ) (n k : ℕ) → n / 64 < length words → (bit_of (with_bit words n) k == 1) ≡ ((bit_of words k == 1) || (n == k))
with_bit-is words n k lt =
    elim (cases_eq k n) [
      | inl same ↦ rw (same, with_bit-same words n lt, eq-eqb n n refl) (grind arith)
      | inr other ↦ rw (with_bit-other words n k lt other, ne_eqb n k (λ e. other (sym e))) (grind arith)
    ]

-- a kind is in the set exactly where it is a token kind whose bit is 1
pub has-bit : (words : List ℕ) (k : ℕ) → IsTrue (has words k) ↔ (k ≤ WHITESPACE) × (bit_of words k ≡ 1)
unfolding has
has-bit words k = (
  λ e. let parts = and_parts _ _ e in (leb-true k WHITESPACE parts.0, eqb-true (bit_of words k) 1 parts.1),
  λ both. rw (le-leb k WHITESPACE both.0, both.1) refl,
)

-- a loop that has looked at each kind of the list has them all
pub has-all : (words kinds : List ℕ) → All IsTokenKind kinds → ((k : ℕ) → k ≤ WHITESPACE → (bit_of words k == 1) ≡ list_any (λ one. one == k) kinds) → (k : ℕ) → has words k ≡ list_any (λ one. one == k) kinds
has-all words kinds tokens told k =
    elim (cases_Bool (leb k WHITESPACE)) [
      | inl small ↦
          let le : k ≤ WHITESPACE = leb-true k WHITESPACE small in
          has-token words k le ∙ told k le
      | inr large ↦
          let lt : WHITESPACE < k = leb-false k WHITESPACE large in
          has-other words k lt
          ∙ sym (list_any_none (λ one. one == k) kinds (λ i d within. ne_eqb (get_or kinds i d) k (λ e. let le : get_or kinds i d ≤ WHITESPACE = tokens i d within in omega arith)))
    ]

-- no bit of the empty set is 1
pub bit_of-no_kinds : (k : ℕ) → k ≤ WHITESPACE → bit_of no_kinds k ≡ 0
bit_of-no_kinds k le = rw (get_or-replicate {A = ℕ} 10 (k / 64) 0 0 (omega arith)) (bit_at-zero (k % 64))

-- and so it has no kind
pub has-no_kinds : (k : ℕ) → has no_kinds k ≡ false
has-no_kinds k = has-all no_kinds [] (λ i d within. absurd (omega (arith, within))) (λ j le. rw (bit_of-no_kinds j le) refl) k
