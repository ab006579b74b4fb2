use Rattle.std.proofs.Common.{rules, ◌≡◌, ◌∙◌, List, ap}
use Rattle.squawk_parser.specs.Pipeline.{Given, given}
use Rattle.squawk_tokens.specs.declared.token.Token.{Token}
use Rattle.sql_syntax.specs.SqlTrees.{sql_given}
use Rattle.sql_syntax.proofs.WholeTrees.{is_whole, of_tree}
use Rattle.sql_syntax.proofs.parse.parse_sql.Goals as goal

pub returns-in_err-tree-clause-refused : goal.returns-in_err-tree-clause-refused
returns-in_err-tree-clause-refused g c =
    of_tree _ _ _ _ c.from_residual-in_err-tree.result c.in_err-tree.field-0.0
    (ap (λ (tokens : List Token). given (g.V.Vocabulary.keyword c.args.words.now) (g.V.Vocabulary.contextual_keyword c.args.words.now) c.args.text.now tokens)
    (c.deref-3.ensures.value ∙ c.in_ok-tokens.ensures.tokens))
    c.in_err-tree.ensures.refused (search rules)

pub returns-clause-tree : goal.returns-clause-tree
returns-clause-tree g c =
    is_whole
    (ap (λ (tokens : List Token). given (g.V.Vocabulary.keyword c.args.words.now) (g.V.Vocabulary.contextual_keyword c.args.words.now) c.args.text.now tokens)
    (c.deref-3.ensures.value ∙ c.in_ok-tokens.ensures.tokens))
    (search rules)
    c.in_ok-tree.ensures.tree
