use Rattle.std.proofs.Common.{◌≡◌, ℕ, ◌<◌, ◌≤◌, ◌⊎◌, true, false, not, length}
use Rattle.std.specs.List.{count_by}
use Rattle.rule_checks.specs.Sets.{has}
use Rattle.rule_checks.specs.Steps.{After, Lists}
use Rattle.rule_checks.proofs.steps.add_after.Given as goal

abbrev pub invariant-loop-k : goal.invariant-loop-k
invariant-loop-k l = record {
  len : length l.marks ≡ length l.lists;
  sound : ((m : ℕ) → m < length l.lists → has l.fn.marks m ≡ true → After (Lists l.lists) l.from m)
      → (m : ℕ) → m < length l.lists → has l.marks m ≡ true → After (Lists l.lists) l.from m;
  all : l.is_new ≡ false → (i : ℕ) → i < l.k → (j : ℕ) → (i ≡ l.from) ⊎ (has l.marks i ≡ true) → Lists l.lists i j → has l.marks j ≡ true;
  most : count_by not l.marks ≤ count_by not l.fn.marks;
  more : l.is_new ≡ true → count_by not l.marks < count_by not l.fn.marks;
}
