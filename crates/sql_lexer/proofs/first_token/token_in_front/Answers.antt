use Rattle.std.proofs.Common.{◌∙◌, sym}
use Rattle.sql_lexer.proofs.Choices.{name_chosen, single_chosen}
use Rattle.sql_lexer.proofs.first_token.token_in_front.Goals as goal

pub returns-in-Some : goal.returns-in-Some
returns-in-Some c = name_chosen c.args.text.now c.in-Some.name (sym c.is_name_start.ensures ∙ c.if-is_name_start.true) c.in-Some.ensures.name

pub returns-in-None : goal.returns-in-None
returns-in-None c = name_chosen c.args.text.now c.short_name.result (sym c.is_name_start.ensures ∙ c.if-is_name_start.true) c.short_name.ensures

pub returns-then-space-stands_alone : goal.returns-then-space-stands_alone
returns-then-space-stands_alone c =
    c.single.ensures ∙ single_chosen c.args.text.now c.is_space-space.result c.stands_alone.result c.is_space_second.result c.requires.some
    c.is_space-space.ensures c.stands_alone.ensures c.is_space_second.ensures c.if-space-stands_alone.true c.if-space-is_space_second.false
