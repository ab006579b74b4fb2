use Rattle.std.proofs.Common.{ℕ, ◌<◌}
use Rattle.rule_checks.specs.Rules.{IsUnreached}
use Rattle.rule_checks.proofs.checks.unreached.Given as goal

abbrev pub invariant-loop-k : goal.invariant-loop-k
invariant-loop-k l = (j : ℕ) → j < l.k → ¬ IsUnreached l.rows l.file j
