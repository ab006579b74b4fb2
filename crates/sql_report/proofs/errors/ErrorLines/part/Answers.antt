use Rattle.std.proofs.Common.{◌∙◌, ◌+◌, ◌≤◌, ◌++◌, ap, length, map, subst, sym}
use Rattle.std.specs.Prelude.{All}
use Rattle.squawk_table.specs.Sent.{sent_list}
use Rattle.sql_report.specs.ErrorLines.{error_texts, moved_finding}
use Rattle.sql_report.specs.Findings.{AreInOrder, all_told}
use Rattle.sql_report.specs.Places.{SeesLine}
use Rattle.sql_report.specs.declared.finding_list.Finding.{Finding}
use Rattle.sql_report.proofs.InOrder.{all_weaker, shows_more}
use Rattle.sql_report.proofs.Windows.{sees_part}
use Rattle.sql_report.proofs.errors.ErrorLines.part.Goals as goal

pub returns-clause-shows : goal.returns-clause-shows
returns-clause-shows c = λ script passed rest given at errors done inner kind part sent before shown.
    let table = c.args.table.now in
    let place = c.args.place.now in
    let start = c.args.start in
    let n = length table.text in
    let findings = c.deref.result.now in
    let steps = sent_list table c.args.output.now.steps in
    let order : AreInOrder (all_told table.errors steps) findings =
    subst (AreInOrder (all_told table.errors steps)) (sym c.deref.ensures.value) c.in_ok-findings.ensures.order in
    let within : All (λ (f : Finding). f.at ≤ n) findings = subst (All (λ (f : Finding). f.at ≤ n)) (sym c.deref.ensures.value) c.in_ok-findings.ensures.within in
    let sees = all_weaker {P = λ f. f.at ≤ n} {Q = λ f. SeesLine passed rest place.window (start + f.at)} findings (λ f le. sees_part script passed rest place at start n f.at part le) within in
    let lines = c.in_ok-extend.ensures.lines script passed rest part.window_of sees in
    shows_more script given c.args.self.now c.extend.new.self at errors table.errors done inner steps kind findings order sent before shown c.extend.ensures.name
    (lines ∙ ap (λ n. c.args.self.now.lines.items ++ error_texts c.args.self.now.name.now script (map (moved_finding n) findings)) (sym part.begins))
    c.in_ok-extend.ensures.count
