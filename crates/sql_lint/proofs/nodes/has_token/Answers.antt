use Rattle.std.proofs.Common.{◌∙◌}
use Rattle.syntax_tree.specs.Trees.{children_of, of_kind, tokens_among}
use Rattle.sql_lint.proofs.FirstOf.{is_there}
use Rattle.sql_lint.proofs.nodes.has_token.Goals as goal

pub returns : goal.returns
returns c = λ tree is.
    c.is_some.ensures
    ∙ is_there c.args.node.tree.now (of_kind tree c.args.kind (tokens_among tree (children_of tree c.args.node.at))) c.first_token_by_kind.result
    (c.first_token_by_kind.ensures tree is)
