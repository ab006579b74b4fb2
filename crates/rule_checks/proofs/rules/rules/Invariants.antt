use Rattle.std.proofs.Common.{◌≡◌, ℕ, ◌<◌, ◌≤◌, length}
use Rattle.rule_checks.specs.Rows.{next_at}
use Rattle.rule_checks.specs.Rules.{IsRule}
use Rattle.rule_checks.specs.Sets.{IsSetBelow}
use Rattle.rule_checks.proofs.rules.rules.Given as goal

abbrev pub invariant-loop-k : goal.invariant-loop-k
invariant-loop-k l = record {
  len : length l.rules.items ≡ l.k;
  is : IsSetBelow l.k (IsRule l.rows) l.rules.items;
  bound : (o : ℕ) → o < l.k → next_at l.rows o ≤ l.past;
  least : (b : ℕ) → ((o : ℕ) → o < l.k → next_at l.rows o ≤ b) → l.past ≤ b;
}
