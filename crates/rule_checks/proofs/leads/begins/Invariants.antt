use Rattle.std.proofs.Common.{◌≡◌, ◌-◌, true}
use Rattle.rule_checks.specs.Leads.{Begins}
use Rattle.rule_checks.specs.Rows.{row_at}
use Rattle.rule_checks.proofs.Walks.{Listed}
use Rattle.rule_checks.proofs.leads.begins.Given as goal

abbrev pub decreases-loop-at : goal.decreases-loop-at
decreases-loop-at l = 18446744073709551615 - l.at

abbrev pub invariant-loop-at : goal.invariant-loop-at
invariant-loop-at l = Listed l.rows (λ _. Unit {0}) (λ m. Begins (l.operand_may_be_empty ≡ true) (row_at l.rows m)) l.start l.end l.at l.list.items
