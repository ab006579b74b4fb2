use Rattle.std.proofs.Common.{◌≡◌, length}
use Rattle.rule_checks.specs.Steps.{HaveEnded}
use Rattle.rule_checks.proofs.steps.ended.Given as goal

abbrev pub invariant-loop : goal.invariant-loop
invariant-loop l = record {
  len : length l.marks.items ≡ length l.lists;
  ended : HaveEnded l.lists l.marks.items;
}
