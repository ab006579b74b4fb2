use Rattle.std.proofs.Common.{◌≤◌, length}
use Rattle.std.specs.Prelude.{◌↔◌}
use Rattle.squawk_table.specs.ParserInput.{input_of}
use Rattle.squawk_table.specs.Shape.{IsOver, no_keywords}
use Rattle.squawk_table.proofs.OverTable.{entries_after}
use Rattle.squawk_table.proofs.lexed_str.LexedStr.tokens_fit.Given as goal

abbrev pub invariant-loop-step : goal.invariant-loop-step
invariant-loop-step l = record {
  within : l.raw ≤ length l.self.kinds;
  over : IsOver l.fn.steps (input_of no_keywords l.self) ↔ IsOver l.step-iterator (entries_after l.self l.raw);
}
