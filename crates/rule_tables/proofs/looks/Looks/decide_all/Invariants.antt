use Rattle.rule_tables.specs.Sets.{Extends}
use Rattle.rule_tables.specs.Strands.{AreWaysDecided}
use Rattle.rule_tables.specs.Walks.{plan_of}
use Rattle.rule_tables.proofs.looks.Looks.decide_all.Given as goal

abbrev pub invariant-loop-row : goal.invariant-loop-row
invariant-loop-row l = record {
  keeps : Extends l.fn.self.sets.list.items l.self.sets.list.items;
  ways : AreWaysDecided (plan_of l.map) l.parts l.row l.undecided;
}
