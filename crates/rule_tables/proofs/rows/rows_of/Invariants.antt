use Rattle.std.proofs.Common.{◌≡◌, ◌≤◌, All, IsTrue, length}
use Rattle.rule_tables.specs.Outer.{outer_at}
use Rattle.rule_tables.specs.Rows.{ListsSome, is_exact, row_at}
use Rattle.rule_tables.proofs.rows.rows_of.Given as goal

abbrev pub invariant-loop-index : goal.invariant-loop-index
invariant-loop-index g l = record {
  len : length l.rows.items ≡ l.index;
  outer : l.outer ≡ outer_at l.definitions.parts.now l.index;
  operators : l.outer.operators ≤ l.index;
  rows : ListsSome (row_at (g.N.Names.vocabulary l.names) l.definitions.parts.now) l.index l.rows.items;
  exact : All (λ row. IsTrue (is_exact row)) l.rows.items;
}
