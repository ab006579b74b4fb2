use Rattle.std.proofs.Common.{subst}
use Rattle.syntax_tree.specs.Layout.{HoldsTree}
use Rattle.syntax_tree.proofs.Places.{some_element}
use Rattle.syntax_tree.proofs.tree.SyntaxTree.root.Goals as goal

pub invariant_of-result : goal.invariant_of-result
invariant_of-result c =
    let held = subst HoldsTree c.self.view_is c.self.invariant.holds in
    record { within = some_element c.args.self.now held.tree held.is }
