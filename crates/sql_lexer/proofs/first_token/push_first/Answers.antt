use Rattle.std.proofs.Common.{◌∙◌, sym, subst}
use Rattle.squawk_tokens.specs.declared.token.Token.{Token}
use Rattle.sql_lexer.specs.Pushes.{Pushes}
use Rattle.sql_lexer.proofs.Choices.{name_chosen, single_chosen}
use Rattle.sql_lexer.proofs.first_token.push_first.Goals as goal

pub returns-in-Some : goal.returns-in-Some
returns-in-Some c =
    let found = name_chosen c.args.text.now c.in-Some.name (sym c.is_name_start.ensures ∙ c.if-is_name_start.true) c.in-Some.ensures.name in
    subst (λ (t : Token). Pushes c.args.tokens.now.items t c.push.new.tokens.items c.push.result) found c.push.ensures

pub returns-in-None : goal.returns-in-None
returns-in-None c =
    let found = name_chosen c.args.text.now c.short_name.result (sym c.is_name_start.ensures ∙ c.if-is_name_start.true) c.short_name.ensures in
    subst (λ (t : Token). Pushes c.args.tokens.now.items t c.push-in-None.new.tokens.items c.push-in-None.result) found c.push-in-None.ensures

pub returns-then-space-stands_alone : goal.returns-then-space-stands_alone
returns-then-space-stands_alone c =
    let found = c.single.ensures ∙ single_chosen c.args.text.now c.is_space-space.result c.stands_alone.result c.is_space_second.result c.requires.some
    c.is_space-space.ensures c.stands_alone.ensures c.is_space_second.ensures c.if-space-stands_alone.true c.if-space-is_space_second.false in
    subst (λ (t : Token). Pushes c.args.tokens.now.items t c.push-then-space-stands_alone.new.tokens.items c.push-then-space-stands_alone.result) found
    c.push-then-space-stands_alone.ensures
