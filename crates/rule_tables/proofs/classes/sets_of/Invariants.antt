use Rattle.std.proofs.Common.{◌≡◌, length, take}
use Rattle.rule_tables.specs.Classes.{AreClasses, list_has}
use Rattle.rule_tables.specs.Definitions.{classes_in}
use Rattle.rule_tables.proofs.classes.sets_of.Given as goal

abbrev pub invariant-loop-index : goal.invariant-loop-index
invariant-loop-index g l = record {
  len : length l.sets.items ≡ classes_in (take l.index l.definitions.parts.now);
  are : AreClasses (g.N.Names.vocabulary l.names) l.definitions.parts.now (list_has l.sets.items) l.index;
}
