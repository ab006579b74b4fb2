use Rattle.std.proofs.Common.{◌≡◌, ℕ, true, not, length}
use Rattle.std.specs.List.{count_by}
use Rattle.rule_checks.specs.Empty.{Empty}
use Rattle.rule_checks.specs.Sets.{has}
use Rattle.rule_checks.proofs.empty.empties.Given as goal

abbrev pub decreases-loop : goal.decreases-loop
decreases-loop l = count_by not l.empties.items

abbrev pub invariant-loop : goal.invariant-loop
invariant-loop l = record {
  len : length l.empties.items ≡ length l.rows;
  sound : (k : ℕ) → has l.empties.items k ≡ true → Empty l.rows k;
}
