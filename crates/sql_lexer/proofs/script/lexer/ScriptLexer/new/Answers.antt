use Rattle.std.proofs.Common.{◌≤◌, arith, subst, sym}
use Rattle.squawk_tokens.specs.AcceptedTokens.{AreAcceptedTokens}
use Rattle.sql_lexer.specs.ScriptLexing.{IsLexing, tokens_left}
use Rattle.sql_lexer.specs.ScriptPlaces.{waiting_at}
use Rattle.sql_lexer.proofs.ScriptTokens.{begun-lexing, script_accepted}
use Rattle.sql_lexer.proofs.script.lexer.ScriptLexer.new.Goals as goal

pub invariant_of-result : goal.invariant_of-result
invariant_of-result c =
    let is = c.place.ensures.is in
    subst (λ place. IsLexing (record { text = c.args.text.now; at = 0; place = place })) (sym is)
    (begun-lexing c.args.place c.args.text.now c.utf8.text (omega (arith, c.if-text-gt-LONGEST_TEXT.false)) (subst (λ place. waiting_at place ≤ 4294967295) is c.place.ensures.waits))

pub returns-clause-accepted : goal.returns-clause-accepted
returns-clause-accepted c =
    subst (λ place. AreAcceptedTokens c.args.text.now (tokens_left (record { text = c.args.text.now; at = 0; place = place }))) (sym c.place.ensures.is)
    (script_accepted c.args.place c.args.text.now c.utf8.text (omega (arith, c.if-text-gt-LONGEST_TEXT.false)))
