use Rattle.std.proofs.Common.{◌≡◌}
use Rattle.rule_tables.specs.Faults.{first_fault, first_kind_fault, first_name_fault, size_fault}
use Rattle.rule_tables.specs.Outer.{outer_at}
use Rattle.rule_tables.proofs.faults.fault_of.Given as goal

abbrev pub invariant-loop-index : goal.invariant-loop-index
invariant-loop-index g l = record {
  outer : l.outer ≡ outer_at l.definitions.parts.now l.index;
  name : l.name ≡ first_name_fault (g.N.Names.vocabulary l.names) l.definitions.parts.now l.index;
  kind : l.kind ≡ first_kind_fault (g.N.Names.vocabulary l.names) l.definitions.parts.now l.index;
  size : l.size ≡ first_fault size_fault l.definitions.parts.now l.index;
}
