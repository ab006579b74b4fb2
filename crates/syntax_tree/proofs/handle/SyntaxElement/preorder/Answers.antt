use Rattle.std.proofs.Common.{◌∙◌, ap, filter}
use Rattle.syntax_tree.specs.Trees.{events_of}
use Rattle.syntax_tree.specs.Walks.{is_of_node}
use Rattle.syntax_tree.proofs.NodesLeft.{node_events-map}
use Rattle.syntax_tree.proofs.handle.SyntaxElement.preorder.Goals as goal

pub returns : goal.returns
returns c = λ tree is.
    ap (filter is_of_node) (c.preorder_with_tokens.ensures tree is) ∙ node_events-map c.args.self.tree.now tree is (events_of tree c.args.self.at)
