use Rattle.std.proofs.Common.{◌≡◌, ◌≤◌, take}
use Rattle.rule_tables.specs.ByName.{HasDefinitions}
use Rattle.rule_tables.specs.Definitions.{classes_in}
use Rattle.rule_tables.proofs.definitions.Definitions.new.Given as goal

abbrev pub invariant-loop-index : goal.invariant-loop-index
invariant-loop-index l = record {
  number : l.number ≡ classes_in (take l.index l.parts);
  few : l.number ≤ l.index;
  are : HasDefinitions l.parts l.index l.by_name;
}
