use Rattle.rule_tables.specs.Maps.{AreLinked}
use Rattle.rule_tables.proofs.map.links_of.Given as goal

abbrev pub invariant-loop-index : goal.invariant-loop-index
invariant-loop-index l = AreLinked l.rows l.lasts.items l.earlier.items l.index
