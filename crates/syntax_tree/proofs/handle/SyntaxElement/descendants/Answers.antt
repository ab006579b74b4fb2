use Rattle.std.proofs.Common.{◌∙◌, ap}
use Rattle.syntax_tree.specs.Trees.{descendants_of}
use Rattle.syntax_tree.specs.Views.{nodes_left}
use Rattle.syntax_tree.proofs.NodesLeft.{nodes_left-map}
use Rattle.syntax_tree.proofs.handle.SyntaxElement.descendants.Goals as goal

pub returns : goal.returns
returns c = λ tree is.
    ap nodes_left (c.descendants_with_tokens.ensures tree is) ∙ nodes_left-map c.args.self.tree.now tree is (descendants_of tree c.args.self.at)
