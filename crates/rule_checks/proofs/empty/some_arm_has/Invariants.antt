use Rattle.std.proofs.Common.{◌≡◌, ◌-◌, true}
use Rattle.rule_checks.specs.Empty.{IsArm}
use Rattle.rule_checks.specs.Rows.{row_at}
use Rattle.rule_checks.specs.Sets.{has}
use Rattle.rule_checks.proofs.Walks.{Passed}
use Rattle.rule_checks.proofs.empty.some_arm_has.Given as goal

abbrev pub decreases-loop-at : goal.decreases-loop-at
decreases-loop-at l = 18446744073709551615 - l.at

abbrev pub invariant-loop-at : goal.invariant-loop-at
invariant-loop-at l = Passed l.rows (λ _. Unit {0}) l.start l.end l.at (λ m. IsArm (row_at l.rows m) → has l.marks m ≡ true → ⊥)
