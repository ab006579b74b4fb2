use Rattle.rule_tables.specs.Strands.{AreGroupsOn}
use Rattle.rule_tables.specs.Walks.{plan_of}
use Rattle.rule_tables.proofs.groups.groups.Given as goal

abbrev pub invariant-loop-strand : goal.invariant-loop-strand
invariant-loop-strand l = AreGroupsOn (plan_of l.map) l.strands l.strand-index l.fn.set l.groups.items
