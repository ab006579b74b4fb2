use Rattle.std.proofs.Common.{◌∙◌, sym, arith}
use Rattle.std.proofs.lemmas.Bool.Decides.{nat_tests}
use Rattle.sql_lexer.proofs.Choices.{number_chosen, string_chosen}
use Rattle.sql_lexer.proofs.first_token.one_of_several.Goals as goal

pub returns-then-is_ascii_digit : goal.returns-then-is_ascii_digit
returns-then-is_ascii_digit c = number_chosen c.args.text.now c.number.result (sym c.is_ascii_digit.ensures.value ∙ c.if-is_ascii_digit.true) c.number.ensures

pub returns-in_default : goal.returns-in_default
returns-in_default c = string_chosen c.args.text.now c.string.result (grind (arith, nat_tests)) c.string.ensures
