-- The kinds of a set that aren't in another.
use Rattle.std.proofs.Common.{◌≡◌, ℕ, zero, suc, ◌+◌, ◌/◌, ◌%◌, ◌<◌, ◌≤◌, min, ◌&&◌, ◌==◌, not, refl, inl, inr, List, [], ◌∷◌, get_or, bit_and, bit_xor, arith, leb, leb-true, below_more, below_none}
use Rattle.std.proofs.lemmas.Bool.{cases_Bool}
use Rattle.std.proofs.lemmas.Nat.Bits.{bit_at_and, bit_at_xor, bit_at-lt}
use Rattle.squawk_kinds.specs.Kinds.{WHITESPACE}
use Rattle.squawk_kinds.specs.TokenSets.{has}

min_is_without : (a b : ℕ) → a < 2 → b < 2 → (min a ((a + b) % 2) == 1) ≡ ((a == 1) && not (b == 1))
min_is_without zero zero la lb = refl
min_is_without zero (suc zero) la lb = refl
min_is_without (suc zero) zero la lb = refl
min_is_without (suc zero) (suc zero) la lb = refl
min_is_without (suc (suc a)) b la lb = absurd (omega (arith, la))
min_is_without zero (suc (suc b)) la lb = absurd (omega (arith, lb))
min_is_without (suc zero) (suc (suc b)) la lb = absurd (omega (arith, lb))

has_without : (a b rest : List ℕ) → ((i : ℕ) → i < 10 → get_or rest i 0 ≡ bit_and (get_or a i 0) (bit_xor (get_or a i 0) (get_or b i 0))) → (k : ℕ) → has rest k ≡ (has a k && not (has b k))
unfolding has
has_without a b rest each k =
    elim (cases_Bool (leb k WHITESPACE)) [
      | inl small ↦
          let le : k ≤ WHITESPACE = leb-true k WHITESPACE small in
          rw (small, each (k / 64) (omega arith), bit_at_and (get_or a (k / 64) 0) (bit_xor (get_or a (k / 64) 0) (get_or b (k / 64) 0)) (k % 64), bit_at_xor (get_or a (k / 64) 0) (get_or b (k / 64) 0) (k % 64))
          (min_is_without _ _ (bit_at-lt (get_or a (k / 64) 0) (k % 64)) (bit_at-lt (get_or b (k / 64) 0) (k % 64)))
      | inr large ↦ rw large refl
    ]

-- its ten words, one after another
abbrev pub words_without : List ℕ → List ℕ → List ℕ
words_without a b =
    bit_and (get_or a 0 0) (bit_xor (get_or a 0 0) (get_or b 0 0))
    ∷ bit_and (get_or a 1 0) (bit_xor (get_or a 1 0) (get_or b 1 0))
    ∷ bit_and (get_or a 2 0) (bit_xor (get_or a 2 0) (get_or b 2 0))
    ∷ bit_and (get_or a 3 0) (bit_xor (get_or a 3 0) (get_or b 3 0))
    ∷ bit_and (get_or a 4 0) (bit_xor (get_or a 4 0) (get_or b 4 0))
    ∷ bit_and (get_or a 5 0) (bit_xor (get_or a 5 0) (get_or b 5 0))
    ∷ bit_and (get_or a 6 0) (bit_xor (get_or a 6 0) (get_or b 6 0))
    ∷ bit_and (get_or a 7 0) (bit_xor (get_or a 7 0) (get_or b 7 0))
    ∷ bit_and (get_or a 8 0) (bit_xor (get_or a 8 0) (get_or b 8 0))
    ∷ bit_and (get_or a 9 0) (bit_xor (get_or a 9 0) (get_or b 9 0))
    ∷ []

each_word : (a b : List ℕ) (i : ℕ) → i < 10 → get_or (words_without a b) i 0 ≡ bit_and (get_or a i 0) (bit_xor (get_or a i 0) (get_or b i 0))
each_word a b =
    let P : ℕ → Type 0 = λ i. get_or (words_without a b) i 0 ≡ bit_and (get_or a i 0) (bit_xor (get_or a i 0) (get_or b i 0)) in
    let to_4 : (i : ℕ) → i < 5 → P i = below_more P 4 (below_more P 3 (below_more P 2 (below_more P 1 (below_more P 0 (below_none P) refl) refl) refl) refl) refl in
    below_more P 9 (below_more P 8 (below_more P 7 (below_more P 6 (below_more P 5 to_4 refl) refl) refl) refl) refl

pub has-words_without : (a b : List ℕ) (k : ℕ) → has (words_without a b) k ≡ (has a k && not (has b k))
has-words_without a b = has_without a b (words_without a b) (each_word a b)
