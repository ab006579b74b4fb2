use Rattle.std.proofs.Common.{ℕ}
use Rattle.std.specs.Prelude.{Contains, ◌↔◌}
use Rattle.rule_checks.specs.Rules.{IsCalled}
use Rattle.rule_checks.proofs.rules.calls.Given as goal

abbrev pub invariant-loop-k : goal.invariant-loop-k
invariant-loop-k l = (r : ℕ) → Contains l.list.items r ↔ IsCalled l.rows l.start l.k r
