use Rattle.std.proofs.Common.{◌∙◌, ap, arith, refl, subst, sym}
use Rattle.std.specs.Prelude.{IsUtf8}
use Rattle.squawk_tokens.specs.declared.token.Token.{Token}
use Rattle.sql_lexer.specs.declared.statements.Statement.TheVariants.{Plain}
use Rattle.sql_lexer.proofs.LinesFit.{first_is_utf8, first_within}
use Rattle.sql_lexer.proofs.ScriptPlaces.{plain_stays}
use Rattle.sql_lexer.proofs.script.places.push_plain.Goals as goal

pub split_at-requires : goal.split_at-requires
split_at-requires c =
    let within = first_within c.args.text.now c.requires.rest.utf8 c.requires.rest.some in
    omega (arith, within, ap (λ (t : Token). t.len) c.in_ok-found.ensures.1)

pub returns-else-may_end-clause-place : goal.returns-else-may_end-clause-place
returns-else-may_end-clause-place c =
    c.requires.plain ∙ plain_stays Plain c.args.text.now c.in_ok-found.found refl c.in_ok-found.ensures.1 (sym c.may_end.ensures ∙ c.if-may_end.false)

pub place_with-requires-clause-utf8 : goal.place_with-requires-clause-utf8
place_with-requires-clause-utf8 c =
    subst IsUtf8 (sym c.split_at.ensures.front)
    (first_is_utf8 c.args.text.now c.in_ok-found.found c.in_ok-found.ensures.1 c.requires.rest.utf8 c.requires.rest.some)
