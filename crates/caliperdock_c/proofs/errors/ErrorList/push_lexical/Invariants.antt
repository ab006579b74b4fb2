use Rattle.std.proofs.Common.{◌≡◌, ◌++◌, length}
use Rattle.caliperdock_c.specs.Errors.{error_texts, numbered_errors}
use Rattle.caliperdock_c.proofs.errors.ErrorList.push_lexical.Given as goal

abbrev pub invariant-loop-error : goal.invariant-loop-error
invariant-loop-error l = record {
  of_steps : l.self.of_steps ≡ l.initial.self.of_steps;
  numbers : l.self.numbers.items ++ numbered_errors (length l.self.texts.items) l.error-iterator
      ≡ l.initial.self.numbers.items ++ numbered_errors (length l.initial.self.texts.items) l.initial.error-iterator;
  texts : l.self.texts.items ++ error_texts l.error-iterator ≡ l.initial.self.texts.items ++ error_texts l.initial.error-iterator;
}
