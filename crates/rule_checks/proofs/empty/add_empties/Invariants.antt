use Rattle.std.proofs.Common.{◌≡◌, ℕ, ◌<◌, ◌≤◌, true, false, not, length}
use Rattle.std.specs.List.{count_by}
use Rattle.rule_checks.specs.Empty.{EatsNothingBy, Empty}
use Rattle.rule_checks.specs.Sets.{has}
use Rattle.rule_checks.proofs.empty.add_empties.Given as goal

abbrev pub decreases-loop-k : goal.decreases-loop-k
decreases-loop-k l = l.k

abbrev pub invariant-loop-k : goal.invariant-loop-k
invariant-loop-k l = record {
  within : l.k ≤ length l.rows;
  len : length l.empties ≡ length l.rows;
  sound : ((m : ℕ) → has l.fn.empties m ≡ true → Empty l.rows m) → (m : ℕ) → has l.empties m ≡ true → Empty l.rows m;
  all : l.is_new ≡ false → (m : ℕ) → l.k ≤ m → EatsNothingBy l.rows (λ i. has l.empties i ≡ true) m → has l.empties m ≡ true;
  most : count_by not l.empties ≤ count_by not l.fn.empties;
  more : l.is_new ≡ true → count_by not l.empties < count_by not l.fn.empties;
}
