use Rattle.sql_report.proofs.HeldSteps.{Holds}
use Rattle.sql_report.proofs.one_walk.Walk.inside.Given as goal

abbrev pub invariant-loop-step : goal.invariant-loop-step
invariant-loop-step l = Holds l.start l.initial.self l.self l.initial.step-iterator.steps l.held l.step-iterator.steps
