use Rattle.rule_tables.specs.Maps.{AreOuters}
use Rattle.rule_tables.proofs.map.outers_of.Given as goal

abbrev pub invariant-loop-index : goal.invariant-loop-index
invariant-loop-index l = AreOuters l.rows l.outers.items l.index
