-- Kinds of operators have no end among them.
use Rattle.std.specs.Prelude.{◌≡◌, Bool, true, false, if◌then◌else◌}
use Rattle.std.proofs.Common.{refl}
use Rattle.squawk_kinds.specs.Kinds.{EOF}
use Rattle.squawk_kinds.specs.TokenSets.{has, no_kinds}
use Rattle.squawk_kinds.specs.declared.token_set.TokenSet.{TokenSet}
use Rattle.squawk_parser.specs.Words.{no_words_has_no_end}
use Rattle.rule_grammar.specs.Derivations.{operators_of}

without_end : (kinds : TokenSet) (is : Bool) → has kinds EOF ≡ is → has (if is then no_kinds else kinds) EOF ≡ false
without_end kinds true e = no_words_has_no_end
without_end kinds false e = e

pub operators_have_no_end : (kinds : TokenSet) → has (operators_of kinds) EOF ≡ false
operators_have_no_end kinds = without_end kinds (has kinds EOF) refl
