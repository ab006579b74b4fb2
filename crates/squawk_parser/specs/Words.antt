-- The operators of a grammar, and the names of its kinds.
use Rattle.std.specs.Prelude.{◌≡◌, false, [], map, refl}
use Rattle.squawk_kinds.specs.KindNames.{Names}
use Rattle.squawk_kinds.specs.Kinds.{EOF}
use Rattle.squawk_kinds.specs.TokenSets as sets
use Rattle.squawk_kinds.specs.TokenSets.{has, no_kinds}
use Rattle.squawk_kinds.specs.declared.token_set.TokenSet.{TokenSet}
use Rattle.squawk_parser.specs.declared.parser.words.Words.{Words as Given}

-- the kinds that operators are made of, and kinds with their names
pub record Words : Type 0 where
  pub operator_first : TokenSet
  pub names : Names

abbrev pub words_of : Given → Words
words_of words = record { operator_first = words.operator_first; names = map (λ pair. (pair.0, pair.1.now)) words.names.now }

-- no kinds of operators, and no names
abbrev pub no_words : Words
no_words = record { operator_first = no_kinds; names = [] }

-- the end is no kind of an operator
abbrev pub HasNoEnd : Words → Type 0
HasNoEnd words = has words.operator_first EOF ≡ false

-- no words have no end
pub no_words_has_no_end : HasNoEnd no_words
unfolding sets.has
no_words_has_no_end = refl
