use Rattle.rule_tables.proofs.Cuts.{IsCutting}
use Rattle.rule_tables.proofs.groups.cut.Given as goal

abbrev pub invariant-loop-set : goal.invariant-loop-set
invariant-loop-set l = IsCutting l.sets l.kinds l.set-index l.cut.items
