use Rattle.rule_tables.specs.Walks.{HasReached, plan_of}
use Rattle.rule_tables.proofs.Over.{IsOver}
use Rattle.rule_tables.proofs.walk.Walk.over.Given as goal

abbrev pub invariant-loop-place : goal.invariant-loop-place
invariant-loop-place l = HasReached (plan_of l.map) l.self (IsOver (plan_of l.map) l.places l.kind l.place-index)
