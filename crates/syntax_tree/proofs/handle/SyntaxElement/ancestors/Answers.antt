use Rattle.std.proofs.Common.{ap, inr, subst, map, arith}
use Rattle.syntax_tree.specs.Layout.{HoldsTree}
use Rattle.syntax_tree.specs.Views.{place_in}
use Rattle.syntax_tree.proofs.Places.{reads}
use Rattle.syntax_tree.proofs.Ancestors.{ancestors_are}
use Rattle.syntax_tree.proofs.handle.SyntaxElement.ancestors.Goals as goal

pub invariant_of-result : goal.invariant_of-result
invariant_of-result c =
    let held = subst HoldsTree c.tree.view_is c.tree.invariant.holds in
    let read = reads c.args.self.tree.now held.tree held.is c.args.self.at c.args.self.within in
    record { below = c.args.self.within; within = inr (omega arith, omega (arith, read.behind)) }

pub returns : goal.returns
returns c = λ tree is.
    let held = subst HoldsTree c.tree.view_is c.tree.invariant.holds in
    ap (map (place_in c.args.self.tree.now)) (ancestors_are c.args.self.tree.now tree is held.few c.args.self.at c.args.self.within)
