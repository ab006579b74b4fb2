use Rattle.std.proofs.Common.{◌≡◌, ℕ, ◌<◌, refl, List, [], ◌∷◌, get_or, bit_or, below_more, below_none}
use Rattle.squawk_kinds.proofs.TokenSetLemmas.{has-or}
use Rattle.squawk_kinds.proofs.token_set.TokenSet.union.Goals as goal

-- the ten words of a union, one after another
abbrev both : List ℕ → List ℕ → List ℕ
both a b =
    bit_or (get_or a 0 0) (get_or b 0 0)
    ∷ bit_or (get_or a 1 0) (get_or b 1 0)
    ∷ bit_or (get_or a 2 0) (get_or b 2 0)
    ∷ bit_or (get_or a 3 0) (get_or b 3 0)
    ∷ bit_or (get_or a 4 0) (get_or b 4 0)
    ∷ bit_or (get_or a 5 0) (get_or b 5 0)
    ∷ bit_or (get_or a 6 0) (get_or b 6 0)
    ∷ bit_or (get_or a 7 0) (get_or b 7 0)
    ∷ bit_or (get_or a 8 0) (get_or b 8 0)
    ∷ bit_or (get_or a 9 0) (get_or b 9 0)
    ∷ []

-- each has the bits of both sets
each_word : (a b : List ℕ) (i : ℕ) → i < 10 → get_or (both a b) i 0 ≡ bit_or (get_or a i 0) (get_or b i 0)
each_word a b =
    let P : ℕ → Type 0 = λ i. get_or (both a b) i 0 ≡ bit_or (get_or a i 0) (get_or b i 0) in
    let to_4 : (i : ℕ) → i < 5 → P i = below_more P 4 (below_more P 3 (below_more P 2 (below_more P 1 (below_more P 0 (below_none P) refl) refl) refl) refl) refl in
    below_more P 9 (below_more P 8 (below_more P 7 (below_more P 6 (below_more P 5 to_4 refl) refl) refl) refl) refl

pub returns : goal.returns
returns c k = rw (← c.self.view_is, ← c.other.view_is) (has-or c.self.inside.0 c.other.inside.0 (both c.self.inside.0 c.other.inside.0) (each_word c.self.inside.0 c.other.inside.0) k)
