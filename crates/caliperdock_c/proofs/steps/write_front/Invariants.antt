use Rattle.std.proofs.Common.{◌≡◌, ◌+◌, ◌++◌, List, length}
use Rattle.caliperdock_c.specs.Overlays.{over}
use Rattle.caliperdock_c.specs.Steps.{HaveNumbers, numbered_steps}
use Rattle.caliperdock_c.specs.declared.steps.CStep.{CStep}
use Rattle.caliperdock_c.proofs.steps.write_front.Given as goal

abbrev pub invariant-loop-count : goal.invariant-loop-count
invariant-loop-count l = record {
  eaten_all : l.steps.eaten_all ≡ l.initial.steps.eaten_all;
  few : l.count + length l.steps.steps ≡ length l.initial.steps.steps;
  numbers : HaveNumbers l.place.at l.place.errors l.steps.steps;
  front : List CStep;
  all : front ++ numbered_steps l.place.at l.place.errors l.steps.steps ≡ numbered_steps 0 0 l.initial.steps.steps;
  count : l.count ≡ length front;
  room : l.room ≡ over front l.initial.room;
}
