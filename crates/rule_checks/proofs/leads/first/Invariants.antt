use Rattle.std.proofs.Common.{◌-◌}
use Rattle.rule_checks.specs.Empty.{Empty}
use Rattle.rule_checks.proofs.Walks.{Listed}
use Rattle.rule_checks.proofs.leads.first.Given as goal

abbrev pub decreases-loop-at : goal.decreases-loop-at
decreases-loop-at l = 18446744073709551615 - l.at

abbrev pub invariant-loop-at : goal.invariant-loop-at
invariant-loop-at l = Listed l.rows (Empty l.rows) (λ _. Unit {0}) l.start l.end l.at l.list.items
