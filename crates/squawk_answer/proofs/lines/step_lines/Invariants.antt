use Rattle.std.proofs.Common.{◌≡◌, ◌++◌, string_bytes}
use Rattle.squawk_answer.specs.Lines.{step_lines}
use Rattle.squawk_answer.proofs.lines.step_lines.Given as goal

abbrev pub invariant-loop-step : goal.invariant-loop-step
invariant-loop-step l = record {
  all : l.steps.eaten_all ≡ l.initial.steps.eaten_all;
  text : string_bytes l.text ++ step_lines l.steps.steps ≡ step_lines l.initial.steps.steps;
}
