use Rattle.syntax_tree.specs.Trees.{children_of, nodes_among}
use Rattle.syntax_tree.proofs.SiblingLoops.{first_given}
use Rattle.syntax_tree.proofs.handle.SyntaxElement.first_child.Goals as goal

pub returns : goal.returns
returns c = λ tree is.
    first_given c.args.self.tree.now (nodes_among tree (children_of tree c.args.self.at)) c.children.result c.next.new.self (c.children.ensures tree is) c.next.result
    c.next.ensures.steps
