use Rattle.std.proofs.Common.{subst}
use Rattle.syntax_tree.specs.Trees.{tokens_among}
use Rattle.syntax_tree.specs.Views.{IsLastIn}
use Rattle.syntax_tree.proofs.Searches.{ends_within, descendants_are}
use Rattle.syntax_tree.proofs.handle.SyntaxElement.last_token.Goals as goal

pub last_token_between-requires : goal.last_token_between-requires
last_token_between-requires c =
    let held = c.behind.ensures.tree in
    ends_within c.args.self.tree.now held.tree held.is c.args.self.at c.args.self.within c.behind.result c.behind.ensures.behind

pub returns : goal.returns
returns c = λ tree is.
    subst (λ list. IsLastIn c.args.self.tree.now (tokens_among tree list) c.last_token_between.result)
    (descendants_are c.args.self.tree.now tree is c.args.self.at c.args.self.within c.behind.result c.behind.ensures.behind) (c.last_token_between.ensures tree is)
