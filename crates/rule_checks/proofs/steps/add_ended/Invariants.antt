use Rattle.std.proofs.Common.{◌≡◌, ◌≤◌, length}
use Rattle.rule_checks.specs.Steps.{HaveEnded}
use Rattle.rule_checks.proofs.steps.add_ended.Given as goal

abbrev pub decreases-loop-k : goal.decreases-loop-k
decreases-loop-k l = l.k

abbrev pub invariant-loop-k : goal.invariant-loop-k
invariant-loop-k l = record {
  within : l.k ≤ length l.lists;
  len : length l.marks ≡ length l.lists;
  ended : HaveEnded l.lists l.fn.marks → HaveEnded l.lists l.marks;
}
