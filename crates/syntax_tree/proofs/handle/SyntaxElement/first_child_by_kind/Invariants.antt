use Rattle.squawk_tree.specs.Forest.{Forest}
use Rattle.syntax_tree.specs.Layout.{IsTree}
use Rattle.syntax_tree.specs.Trees.{children_of, nodes_among, of_kind}
use Rattle.syntax_tree.proofs.ByKind.{PassedBy}
use Rattle.syntax_tree.proofs.handle.SyntaxElement.first_child_by_kind.Given as goal

abbrev pub invariant-loop-child : goal.invariant-loop-child
invariant-loop-child l =
    (tree : Forest) → IsTree l.self.tree.now tree
    → PassedBy l.self.tree.now (of_kind tree l.kind) (nodes_among tree (children_of tree l.self.at)) l.child-iterator
