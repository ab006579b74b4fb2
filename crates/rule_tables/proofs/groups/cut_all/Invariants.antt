use Rattle.rule_tables.specs.Looks.{AreAlike}
use Rattle.rule_tables.specs.Walks.{plan_of}
use Rattle.rule_tables.proofs.groups.cut_all.Given as goal

abbrev pub invariant-loop-place : goal.invariant-loop-place
invariant-loop-place l = AreAlike (plan_of l.map) l.places l.place-index l.fn.sets.items l.groups.items
