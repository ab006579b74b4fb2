use Rattle.std.proofs.Common.{◌≡◌, ◌++◌, length}
use Rattle.std.specs.List.{flat_map}
use Rattle.caliperdock_c.specs.Errors.{error_in, error_texts, numbered_errors}
use Rattle.caliperdock_c.specs.Steps.{AreLow}
use Rattle.caliperdock_c.proofs.errors.ErrorList.push_steps.Given as goal

abbrev pub invariant-loop-step : goal.invariant-loop-step
invariant-loop-step l = record {
  low : AreLow l.step-iterator.steps;
  numbers : l.self.numbers.items ++ numbered_errors (length l.self.texts.items) (flat_map error_in l.step-iterator.steps)
      ≡ l.initial.self.numbers.items ++ numbered_errors (length l.initial.self.texts.items) (flat_map error_in l.initial.step-iterator.steps);
  texts : l.self.texts.items ++ error_texts (flat_map error_in l.step-iterator.steps)
      ≡ l.initial.self.texts.items ++ error_texts (flat_map error_in l.initial.step-iterator.steps);
}
