use Rattle.std.proofs.Common.{◌∙◌, ◌<◌, length, arith, ap, sym}
use Rattle.squawk_kinds.specs.Kinds.{is_trivia}
use Rattle.squawk_table.proofs.Trivia.{past_trivia-here, past_trivia-more}
use Rattle.squawk_table.proofs.lexed_str.LexedStr.past_trivia.Goals as goal

pub loop-raw-preserved : goal.loop-raw-preserved
loop-raw-preserved c =
    let t = c.args.self.now in
    let i = c.loop-raw.raw in
    let lt : i < length t.kinds = omega arith in
    let trivia = sym (c.is_trivia.ensures ∙ ap is_trivia c.kind.ensures) ∙ c.if-is_trivia.true in
    record { within = omega arith; past = sym (past_trivia-more t i lt trivia) ∙ c.loop-raw.invariant.past }

pub returns-else-is_trivia-clause-past : goal.returns-else-is_trivia-clause-past
returns-else-is_trivia-clause-past c =
    let t = c.args.self.now in
    let i = c.loop-raw.raw in
    let lt : i < length t.kinds = omega arith in
    let input = sym (c.is_trivia.ensures ∙ ap is_trivia c.kind.ensures) ∙ c.if-is_trivia.false in
    sym (past_trivia-here t i lt input) ∙ c.loop-raw.invariant.past
