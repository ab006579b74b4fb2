-- The kinds that operators are made of.
use Rattle.std.specs.Prelude.{ℕ, List, [], ◌∷◌}
use Rattle.squawk_kinds.specs.Kinds.{EQ, L_ANGLE, MINUS, PLUS, R_ANGLE, SLASH, STAR}
use Rattle.squawk_kinds.specs.declared.token_set.TokenSet.{TokenSet}
use Rattle.squawk_kinds.proofs.ConstantSets.{words_of}

abbrev pub operator_kinds : List ℕ
operator_kinds = PLUS ∷ MINUS ∷ STAR ∷ SLASH ∷ L_ANGLE ∷ R_ANGLE ∷ EQ ∷ []

abbrev pub operator_set : TokenSet
operator_set = words_of operator_kinds
