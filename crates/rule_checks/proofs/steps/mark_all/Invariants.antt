use Rattle.std.proofs.Common.{◌≡◌, ℕ, ◌<◌, ◌≤◌, ◌⊎◌, true, false, not, length, get_or}
use Rattle.std.specs.Prelude.{Contains}
use Rattle.std.specs.List.{count_by}
use Rattle.rule_checks.specs.Sets.{has}
use Rattle.rule_checks.proofs.steps.mark_all.Given as goal

abbrev pub invariant-loop-k : goal.invariant-loop-k
invariant-loop-k l = record {
  len : length l.marks ≡ length l.fn.marks;
  stay : (m : ℕ) → has l.fn.marks m ≡ true → has l.marks m ≡ true;
  listed : (i d : ℕ) → i < l.k-index → has l.marks (get_or l.list i d) ≡ true;
  only : (m : ℕ) → has l.marks m ≡ true → (has l.fn.marks m ≡ true) ⊎ Contains l.list m;
  none : l.is_new ≡ false → l.marks ≡ l.fn.marks;
  most : count_by not l.marks ≤ count_by not l.fn.marks;
  more : l.is_new ≡ true → count_by not l.marks < count_by not l.fn.marks;
}
