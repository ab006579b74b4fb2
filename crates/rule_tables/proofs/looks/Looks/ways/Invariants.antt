use Rattle.rule_tables.specs.Sets.{Extends}
use Rattle.rule_tables.specs.Walks.{plan_of}
use Rattle.rule_tables.proofs.Below.{rank}
use Rattle.rule_tables.proofs.Beside.{IsListingWays}
use Rattle.rule_tables.proofs.looks.Looks.ways.Given as goal

abbrev pub invariant-loop-at : goal.invariant-loop-at
invariant-loop-at l = record {
  keeps : Extends l.fn.self.sets.list.items l.self.sets.list.items;
  ways : IsListingWays (plan_of l.map) l.way l.fn.row l.at l.strands.items;
}

abbrev pub decreases-loop-at : goal.decreases-loop-at
decreases-loop-at l = rank l.at
