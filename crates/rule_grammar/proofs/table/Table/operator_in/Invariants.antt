use Rattle.std.proofs.Common.{◌-◌, ◌≤◌}
use Rattle.rule_grammar.specs.Derivations.{Beside}
use Rattle.rule_grammar.proofs.table.Table.operator_in.Given as goal

abbrev pub invariant-loop-at : goal.invariant-loop-at
invariant-loop-at l = (l.rows.start ≤ l.at) × Beside l.self.rows.now l.rows.start l.at

abbrev pub decreases-loop-at : goal.decreases-loop-at
decreases-loop-at l = l.rows.end - l.at
