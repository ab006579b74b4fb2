use Rattle.std.proofs.Common.{◌≡◌, ◌<◌, ◌+◌, ◌∙◌, min, length, arith, ap, refl, sym}
use Rattle.std.proofs.lemmas.List.{get_or_read_under}
use Rattle.squawk_kinds.specs.TokenSets.{has}
use Rattle.squawk_parser.specs.LookAhead.{seen_from}
use Rattle.squawk_parser.specs.Operators.{is_special, joint_run}
use Rattle.squawk_parser.specs.OperatorRuns.{IsPastLast, is_no_sign}
use Rattle.squawk_parser.proofs.RunEnds.{past_read}
use Rattle.squawk_parser.proofs.RunLengths.{length-none, length-special, length-other, length-sign}
use Rattle.squawk_parser.proofs.parser.tokens.operator_runs.OperatorRuns.operator_len.Goals as goal
use Rattle.squawk_parser.proofs.parser.tokens.operator_runs.OperatorRuns.operator_len.Goals.{After-min-end, After-index-2}

-- where the run ends under the limit
end_here : (c : After-min-end)
    → c.min-end.result ≡ min c.args.limit (c.args.start + length (joint_run (has c.args.self.now.operator_first) (seen_from c.args.input.now (length c.args.input.now) c.args.start)))
end_here c =
    let ends = c.args.self.now.ends.items in
    let all = c.requires.runs.ends in
    let before : c.args.start < length c.args.input.now = omega (arith, c.if-start-limit.false, c.requires.limit) in
    let read = get_or_read_under ends c.args.start (length ends) c.index.result.now 0 c.index.ensures (omega (arith, all.count, before)) refl in
    c.min-end.ensures ∙ ap (min c.args.limit) (read ∙ all.at c.args.start before)

pub returns-then-end-start : goal.returns-then-end-start
returns-then-end-start c =
    let operator_kind = has c.args.self.now.operator_first in
    let end = end_here (goal.at.returns-then-end-start c).After-min-end in
    sym (length-none operator_kind c.args.input.now c.args.limit c.args.start c.requires.limit c.min-end.result (omega (arith, c.if-start-limit.false)) end c.if-end-start.true)

-- the index past the last special kind before the end
special_here : (c : After-index-2) → IsPastLast is_special c.args.input.now c.min-end.result c.index-2.result.now
special_here c =
    past_read is_special c.args.input.now c.args.self.now.past_specials.items c.min-end.result c.index-2.result.now c.requires.runs.specials
    (omega (arith, c.if-end-start.false)) (omega (arith, c.min-end.ensures, c.requires.limit)) c.index-2.ensures

pub returns-then-index-start : goal.returns-then-index-start
returns-then-index-start c =
    let operator_kind = has c.args.self.now.operator_first in
    let end = end_here (goal.at.returns-then-index-start c).After-min-end in
    let special = special_here (goal.at.returns-then-index-start c).After-index-2 in
    sym (length-special operator_kind c.args.input.now c.args.limit c.args.start c.requires.limit c.min-end.result (omega (arith, c.if-start-limit.false)) end
    c.index-2.result.now special c.if-index-start.true)

pub returns-then-past_other-start : goal.returns-then-past_other-start
returns-then-past_other-start c =
    let operator_kind = has c.args.self.now.operator_first in
    let end = end_here (goal.at.returns-then-past_other-start c).After-min-end in
    let special = special_here (goal.at.returns-then-past_other-start c).After-index-2 in
    let other = past_read is_no_sign c.args.input.now c.args.self.now.past_others.items c.min-end.result c.index-3.result.now c.requires.runs.others
    (omega (arith, c.if-end-start.false)) (omega (arith, c.min-end.ensures, c.requires.limit)) c.index-3.ensures in
    sym (length-other operator_kind c.args.input.now c.args.limit c.args.start c.requires.limit c.min-end.result (omega (arith, c.if-start-limit.false)) end
    c.index-2.result.now special c.if-index-start.false c.if-end-start.false c.index-3.result.now other c.if-past_other-start.true)

pub returns-else-past_other-start : goal.returns-else-past_other-start
returns-else-past_other-start c =
    let operator_kind = has c.args.self.now.operator_first in
    let end = end_here (goal.at.returns-else-past_other-start c).After-min-end in
    let special = special_here (goal.at.returns-else-past_other-start c).After-index-2 in
    let other = past_read is_no_sign c.args.input.now c.args.self.now.past_others.items c.min-end.result c.index-3.result.now c.requires.runs.others
    (omega (arith, c.if-end-start.false)) (omega (arith, c.min-end.ensures, c.requires.limit)) c.index-3.ensures in
    sym (length-sign operator_kind c.args.input.now c.args.limit c.args.start c.requires.limit c.min-end.result (omega (arith, c.if-start-limit.false)) end
    c.index-2.result.now special c.if-index-start.false c.if-end-start.false c.index-3.result.now other c.if-past_other-start.false)
