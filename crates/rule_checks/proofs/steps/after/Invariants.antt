use Rattle.std.proofs.Common.{◌≡◌, ℕ, ◌<◌, true, not, length}
use Rattle.std.specs.List.{count_by}
use Rattle.rule_checks.specs.Sets.{has}
use Rattle.rule_checks.specs.Steps.{After, Lists}
use Rattle.rule_checks.proofs.steps.after.Given as goal

abbrev pub decreases-loop : goal.decreases-loop
decreases-loop l = count_by not l.marks.items

abbrev pub invariant-loop : goal.invariant-loop
invariant-loop l = record {
  len : length l.marks.items ≡ length l.lists;
  sound : (k : ℕ) → k < length l.lists → has l.marks.items k ≡ true → After (Lists l.lists) l.from k;
}
