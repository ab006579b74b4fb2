use Rattle.std.proofs.Common.{ap, map, subst}
use Rattle.syntax_tree.specs.Layout.{HoldsTree}
use Rattle.syntax_tree.specs.Walks.{in_tree}
use Rattle.syntax_tree.proofs.WalksEvents.{events_are, visit_begins}
use Rattle.syntax_tree.proofs.handle.SyntaxElement.preorder_with_tokens.Goals as goal

pub invariant_of-result : goal.invariant_of-result
invariant_of-result c =
    let held = subst HoldsTree c.tree.view_is c.tree.invariant.holds in
    visit_begins c.args.self.tree.now held.tree held.is held.few c.args.self.at c.args.self.within

pub returns : goal.returns
returns c = λ tree is.
    let held = subst HoldsTree c.tree.view_is c.tree.invariant.holds in
    ap (map (in_tree c.args.self.tree.now)) (events_are c.args.self.tree.now tree is held.few c.args.self.at c.args.self.within)
