use Rattle.std.proofs.Common.{◌≡◌, ◌+◌, length}
use Rattle.caliperdock_c.proofs.steps.count_rest.Given as goal

abbrev pub invariant-loop-count : goal.invariant-loop-count
invariant-loop-count l = record {
  eaten_all : l.steps.eaten_all ≡ l.initial.steps.eaten_all;
  few : l.count + length l.steps.steps ≡ l.written + length l.initial.steps.steps;
}
