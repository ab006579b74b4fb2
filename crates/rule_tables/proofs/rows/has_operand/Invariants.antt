use Rattle.std.proofs.Common.{◌≡◌, ◌+◌, ◌≤◌}
use Rattle.rule_tables.specs.Rows.{has_operand}
use Rattle.rule_tables.proofs.rows.has_operand.Given as goal

abbrev pub invariant-loop-left : goal.invariant-loop-left
invariant-loop-left l = record {
  is : has_operand l.parts l.index l.left ≡ has_operand l.parts l.fn.first l.fn.count;
  room : l.index + l.left ≤ 65000;
}

abbrev pub decreases-loop-left : goal.decreases-loop-left
decreases-loop-left l = l.left
