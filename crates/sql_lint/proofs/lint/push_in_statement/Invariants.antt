use Rattle.std.proofs.Common.{map}
use Rattle.squawk_tree.specs.Forest.{Forest}
use Rattle.sql_report.specs.Findings.{told}
use Rattle.syntax_tree.specs.Layout.{IsTree}
use Rattle.syntax_tree.specs.Trees.{descendants_of, kind_at, nodes_among}
use Rattle.sql_lint.specs.Rules.{findings_at}
use Rattle.sql_lint.proofs.Findings.{Finds}
use Rattle.sql_lint.proofs.lint.push_in_statement.Given as goal

abbrev pub invariant-loop-node : goal.invariant-loop-node
invariant-loop-node l =
    (forest : Forest) → IsTree l.statement.tree.now forest
    → Finds l.statement.tree.now (findings_at (kind_at forest l.statement.at) forest) (map told l.initial.findings.items)
    (nodes_among forest (descendants_of forest l.statement.at)) (map told l.findings.items) l.node-iterator
