use Rattle.std.proofs.Common.{map}
use Rattle.squawk_tree.specs.Forest.{Forest}
use Rattle.sql_report.specs.Findings.{told}
use Rattle.syntax_tree.specs.Layout.{IsTree}
use Rattle.syntax_tree.specs.Trees.{children_of, nodes_among}
use Rattle.sql_lint.specs.Rules.{findings_of}
use Rattle.sql_lint.proofs.Findings.{Finds}
use Rattle.sql_lint.proofs.lint.push_broken_rules.Given as goal

abbrev pub invariant-loop-statement : goal.invariant-loop-statement
invariant-loop-statement l =
    (forest : Forest) → IsTree l.tree forest
    → Finds l.tree (findings_of forest) (map told l.initial.findings.items) (nodes_among forest (children_of forest 0)) (map told l.findings.items) l.statement-iterator
