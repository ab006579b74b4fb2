use Rattle.std.proofs.Common.{subst}
use Rattle.syntax_tree.specs.Layout.{HoldsTree}
use Rattle.syntax_tree.proofs.WalksSteps.{steps_are, walk_begins}
use Rattle.syntax_tree.proofs.tree.SyntaxTree.steps.Goals as goal

pub invariant_of-result : goal.invariant_of-result
invariant_of-result c =
    let held = subst HoldsTree c.self.view_is c.self.invariant.holds in
    walk_begins c.args.self.now held.tree held.is held.few

pub returns : goal.returns
returns c = λ tree is. steps_are c.args.self.now tree is (subst HoldsTree c.self.view_is c.self.invariant.holds).few
