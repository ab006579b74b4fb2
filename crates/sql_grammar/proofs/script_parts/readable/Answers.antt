use Rattle.std.proofs.Common.{◌≡◌, ◌∙◌, ◌-◌, ap, arith, length, subst, sym, take}
use Rattle.sql_grammar.specs.WholeLines.{AreWholeLines}
use Rattle.sql_grammar.proofs.WholeLines.{is_front, lines_end}
use Rattle.sql_grammar.proofs.script_parts.readable.Goals as goal

pub range-requires-clause-end_boundary : goal.range-requires-clause-end_boundary
range-requires-clause-end_boundary c =
    let lines = c.whole_lines-end.result.now in
    lines_end c.args.text.now lines c.utf8.text (subst (λ text. AreWholeLines text lines) c.as_bytes.ensures.value c.whole_lines-end.ensures)

pub returns-clause-lines : goal.returns-clause-lines
returns-clause-lines c = λ goes_on.
    let lines = c.whole_lines-end.result.now in
    let are : AreWholeLines c.args.text.now lines = subst (λ text. AreWholeLines text lines) c.as_bytes.ensures.value c.whole_lines-end.ensures in
    let size : length lines - 0 ≡ length lines = omega arith in
    subst (AreWholeLines c.args.text.now) (sym (c.range.ensures.value ∙ (ap (λ n. take n c.args.text.now) size ∙ is_front c.args.text.now lines are))) are
