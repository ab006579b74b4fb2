use Rattle.std.specs.List.{list_any}
use Rattle.squawk_tree.specs.Forest.{Forest}
use Rattle.syntax_tree.specs.Layout.{IsTree}
use Rattle.syntax_tree.specs.Trees.{descendants_of, nodes_among, of_kind}
use Rattle.syntax_tree.proofs.ByKind.{PassedBy}
use Rattle.sql_lint.specs.AlterTable.{calls_anew}
use Rattle.sql_lint.specs.Kinds.{CALL_EXPR}
use Rattle.sql_lint.proofs.alter_table.has_call.Given as goal

abbrev pub invariant-loop-call : goal.invariant-loop-call
invariant-loop-call l =
    (tree : Forest) → IsTree l.node.tree.now tree
    → PassedBy l.node.tree.now (list_any (calls_anew tree)) (of_kind tree CALL_EXPR (nodes_among tree (descendants_of tree l.node.at))) l.call-iterator
