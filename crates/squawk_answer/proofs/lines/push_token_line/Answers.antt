use Rattle.std.proofs.Common.{arith}
use Rattle.std.proofs.lemmas.Grind.{common_steps}
use Rattle.squawk_answer.proofs.PlainTexts.{token_line-plain}
use Rattle.squawk_answer.proofs.lines.push_token_line.Goals as goal

pub returns-then-needs_no_escape : goal.returns-then-needs_no_escape
returns-then-needs_no_escape c =
    let line = token_line-plain c.args.kind c.args.text.now c.utf8.text (c.needs_no_escape.ensures.0 c.if-needs_no_escape.true) in
    rw line (grind (arith, common_steps))
