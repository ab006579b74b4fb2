use Rattle.std.proofs.Common.{ap, arith, subst, sym}
use Rattle.std.specs.Prelude.{IsUtf8}
use Rattle.squawk_tokens.specs.declared.token.Token.{Token}
use Rattle.sql_lexer.proofs.LinesFit.{first_is_utf8, first_within}
use Rattle.sql_lexer.proofs.script.places.push_sql.Goals as goal

pub split_at-requires : goal.split_at-requires
split_at-requires c =
    let within = first_within c.args.text.now c.requires.rest.utf8 c.requires.rest.some in
    omega (arith, within, ap (λ (t : Token). t.len) c.in_ok-found.ensures.1)

pub place_with-requires-clause-utf8 : goal.place_with-requires-clause-utf8
place_with-requires-clause-utf8 c =
    subst IsUtf8 (sym c.split_at.ensures.front)
    (first_is_utf8 c.args.text.now c.in_ok-found.found c.in_ok-found.ensures.1 c.requires.rest.utf8 c.requires.rest.some)
