use Rattle.std.proofs.Common.{◌≡◌, ◌++◌, List}
use Rattle.squawk_table.specs.declared.shortcuts.str_step.OwnedStep.{OwnedStep}
use Rattle.squawk_table.proofs.lexed_str.LexedStr.intersperse_trivia.Given as goal

abbrev pub invariant-loop-step : goal.invariant-loop-step
invariant-loop-step g l = record {
  all : l.steps.eaten_all ≡ l.initial.steps.eaten_all;
  done : (done : List OwnedStep)
      × (done ++ l.steps.steps ≡ l.initial.steps.steps)
      × ((before : List OwnedStep) → g.S.StepSink.stands_after l.initial.sink before → g.S.StepSink.stands_after l.sink (before ++ done));
}
