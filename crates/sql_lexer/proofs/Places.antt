-- Places that are looked for from a place on.
use Rattle.std.proofs.Common.{◌≡◌, ◌∙◌, ℕ, ◌+◌, ◌<◌, Option, Some, None, List, ◌∷◌, length, drop, get_or, add_assoc, arith, ap, sym, refl}
use Rattle.std.proofs.lemmas.List.{drop_more}
use Rattle.sql_lexer.specs.Rules.{past}

past-past : (m n : ℕ) (found : Option ℕ) → past m (past n found) ≡ past (m + n) found
past-past m n None = refl
past-past m n (Some k) = ap (λ p. Some p) (sym (add_assoc m n k))

-- what is found from a place on is what is found n bytes behind it
pub moved : (at n : ℕ) (here behind : Option ℕ) → here ≡ past n behind → past (at + n) behind ≡ past at here
moved at n here behind e = sym (ap (past at) e ∙ past-past at n behind)

-- the two bytes at a place
pub two_at : (text : List ℕ) (at : ℕ) → at + 1 < length text → drop at text ≡ get_or text at 0 ∷ get_or text (at + 1) 0 ∷ drop (at + 2) text
two_at text at lt =
    let here : at < length text = omega arith in
    let place : at + 1 + 1 ≡ at + 2 = omega arith in
    drop_more text at 0 here ∙ ap (λ rest. get_or text at 0 ∷ rest) (drop_more text (at + 1) 0 lt ∙ ap (λ n. get_or text (at + 1) 0 ∷ drop n text) place)
