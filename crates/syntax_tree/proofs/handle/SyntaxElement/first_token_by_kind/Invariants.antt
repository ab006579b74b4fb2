use Rattle.squawk_tree.specs.Forest.{Forest}
use Rattle.syntax_tree.specs.Layout.{IsTree}
use Rattle.syntax_tree.specs.Trees.{children_of, of_kind, tokens_among}
use Rattle.syntax_tree.proofs.ByKind.{PassedBy}
use Rattle.syntax_tree.proofs.handle.SyntaxElement.first_token_by_kind.Given as goal

abbrev pub invariant-loop-element : goal.invariant-loop-element
invariant-loop-element l =
    (tree : Forest) → IsTree l.self.tree.now tree
    → PassedBy l.self.tree.now (λ list. of_kind tree l.kind (tokens_among tree list)) (children_of tree l.self.at) l.element-iterator
