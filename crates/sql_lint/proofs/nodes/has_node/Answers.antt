use Rattle.std.proofs.Common.{◌∙◌}
use Rattle.sql_lint.specs.Nodes.{nodes_in}
use Rattle.sql_lint.proofs.FirstOf.{is_there}
use Rattle.sql_lint.proofs.nodes.has_node.Goals as goal

pub returns : goal.returns
returns c = λ tree is.
    c.is_some.ensures
    ∙ is_there c.args.node.tree.now (nodes_in tree c.args.node.at c.args.kind) c.first_child_by_kind.result (c.first_child_by_kind.ensures tree is)
