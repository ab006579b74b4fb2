use Rattle.std.proofs.Common.{subst}
use Rattle.syntax_tree.specs.Trees.{tokens_among}
use Rattle.syntax_tree.specs.Views.{IsFirstIn}
use Rattle.syntax_tree.proofs.Searches.{ends_within, descendants_are}
use Rattle.syntax_tree.proofs.handle.SyntaxElement.first_token.Goals as goal

pub first_token_between-requires : goal.first_token_between-requires
first_token_between-requires c =
    let held = c.behind.ensures.tree in
    ends_within c.args.self.tree.now held.tree held.is c.args.self.at c.args.self.within c.behind.result c.behind.ensures.behind

pub returns : goal.returns
returns c = λ tree is.
    subst (λ list. IsFirstIn c.args.self.tree.now (tokens_among tree list) c.first_token_between.result)
    (descendants_are c.args.self.tree.now tree is c.args.self.at c.args.self.within c.behind.result c.behind.ensures.behind) (c.first_token_between.ensures tree is)
