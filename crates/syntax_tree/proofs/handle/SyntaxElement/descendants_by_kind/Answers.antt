use Rattle.std.proofs.Common.{◌∙◌, ap}
use Rattle.syntax_tree.specs.Trees.{descendants_of, nodes_among}
use Rattle.syntax_tree.specs.Views.{kinds_left}
use Rattle.syntax_tree.proofs.NodesLeft.{kinds_left-map}
use Rattle.syntax_tree.proofs.handle.SyntaxElement.descendants_by_kind.Goals as goal

pub returns : goal.returns
returns c = λ tree is.
    ap (kinds_left c.args.kind) (c.descendants.ensures tree is)
    ∙ kinds_left-map c.args.self.tree.now tree is c.args.kind (nodes_among tree (descendants_of tree c.args.self.at))
