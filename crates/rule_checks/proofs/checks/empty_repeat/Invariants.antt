use Rattle.std.proofs.Common.{ℕ, ◌<◌}
use Rattle.rule_checks.specs.Empty.{IsEmptyRepeat}
use Rattle.rule_checks.proofs.checks.empty_repeat.Given as goal

abbrev pub invariant-loop-k : goal.invariant-loop-k
invariant-loop-k l = (j : ℕ) → j < l.k → ¬ IsEmptyRepeat l.rows j
