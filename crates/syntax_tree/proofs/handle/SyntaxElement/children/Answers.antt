use Rattle.std.proofs.Common.{◌∙◌, ap}
use Rattle.syntax_tree.specs.Trees.{children_of}
use Rattle.syntax_tree.specs.Views.{nodes_left}
use Rattle.syntax_tree.proofs.NodesLeft.{nodes_left-map}
use Rattle.syntax_tree.proofs.handle.SyntaxElement.children.Goals as goal

pub returns : goal.returns
returns c = λ tree is.
    ap nodes_left (c.children_with_tokens.ensures tree is) ∙ nodes_left-map c.args.self.tree.now tree is (children_of tree c.args.self.at)
