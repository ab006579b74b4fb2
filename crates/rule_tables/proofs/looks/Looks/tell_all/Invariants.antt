use Rattle.rule_tables.specs.Sets.{Extends}
use Rattle.rule_tables.specs.Strands.{IsFound}
use Rattle.rule_tables.specs.Walks.{plan_of}
use Rattle.rule_tables.proofs.looks.Looks.tell_all.Given as goal

abbrev pub invariant-loop-strand : goal.invariant-loop-strand
invariant-loop-strand l = record {
  keeps : Extends l.fn.self.sets.list.items l.self.sets.list.items;
  found : IsFound (plan_of l.map) l.parts l.strands l.trail l.strand-index l.found;
}
