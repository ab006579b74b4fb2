use Rattle.std.proofs.Common.{ap, map, arith}
use Rattle.syntax_tree.specs.Views.{place_in}
use Rattle.syntax_tree.proofs.Places.{reads}
use Rattle.syntax_tree.proofs.Searches.{ends_within, descendants_are}
use Rattle.syntax_tree.proofs.handle.SyntaxElement.descendants_with_tokens.Goals as goal

pub invariant_of-result : goal.invariant_of-result
invariant_of-result c =
    let held = c.behind.ensures.tree in
    let read = reads c.args.self.tree.now held.tree held.is c.args.self.at c.args.self.within in (
      omega (arith, c.behind.ensures.behind, read.behind),
      ends_within c.args.self.tree.now held.tree held.is c.args.self.at c.args.self.within c.behind.result c.behind.ensures.behind,
    )

pub returns : goal.returns
returns c = λ tree is.
    ap (map (place_in c.args.self.tree.now))
    (descendants_are c.args.self.tree.now tree is c.args.self.at c.args.self.within c.behind.result c.behind.ensures.behind)
