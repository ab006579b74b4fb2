use Rattle.rule_tables.specs.Sets.{Extends}
use Rattle.rule_tables.specs.Walks.{plan_of}
use Rattle.rule_tables.proofs.Listing.{IsGoing}
use Rattle.rule_tables.proofs.looks.Looks.after.Given as goal

abbrev pub invariant-loop-strand : goal.invariant-loop-strand
invariant-loop-strand l = record {
  keeps : Extends l.fn.self.sets.list.items l.self.sets.list.items;
  going : IsGoing (plan_of l.map) l.strands l.kind l.strand-index l.after.items;
}
