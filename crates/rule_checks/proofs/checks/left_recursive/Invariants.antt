use Rattle.std.proofs.Common.{ℕ, ◌<◌}
use Rattle.rule_checks.specs.Leads.{IsLeftRecursive}
use Rattle.rule_checks.proofs.checks.left_recursive.Given as goal

abbrev pub invariant-loop-k : goal.invariant-loop-k
invariant-loop-k l = (j : ℕ) → j < l.k → ¬ IsLeftRecursive l.rows j
