use Rattle.std.proofs.Common.{◌≡◌, ◌++◌, map}
use Rattle.std.specs.List.{flat_map}
use Rattle.sql_report.specs.Findings.{told, told_in}
use Rattle.sql_report.proofs.finding_list.push_sent.Given as goal

abbrev pub invariant-loop-step : goal.invariant-loop-step
invariant-loop-step l =
    map told l.all.items ++ flat_map told_in l.step-iterator.steps ≡ map told l.initial.all.items ++ flat_map told_in l.initial.step-iterator.steps
