use Rattle.std.proofs.Common.{◌∙◌, ap, sym, map, arith}
use Rattle.syntax_tree.specs.Views.{place_in}
use Rattle.syntax_tree.proofs.ChildrenLeft.{GivesChild, next_child, progress}
use Rattle.syntax_tree.proofs.walks.ChildrenWithTokensIterator.next.Goals as goal
use Rattle.syntax_tree.proofs.walks.ChildrenWithTokensIterator.next.Goals.{After-behind-self-inside}

given : (c : After-behind-self-inside) → GivesChild c.self.inside.tree.now c.self.inside.node c.self.inside.at c.self.inside.behind
given c =
    let held = c.behind-self-inside.ensures.tree in
    next_child c.self.inside.tree.now held.tree held.is held.few c.self.inside.node c.self.inside.at c.self.inside.behind c.self.invariant
    (omega (arith, c.self.invariant.within.1, c.if-self.false))

pub invariant_of-self : goal.invariant_of-self
invariant_of-self c = rw c.behind-self-inside.ensures.behind (given (goal.at.invariant_of-self c).After-behind-self-inside).on

pub returns-clause-steps : goal.returns-clause-steps
returns-clause-steps c =
    rw c.behind-self-inside.ensures.behind (sym c.self.view_is ∙ ap (map (place_in c.self.inside.tree.now)) (given (goal.at.returns-clause-steps c).After-behind-self-inside).gives)

pub returns-clause-goes : goal.returns-clause-goes
returns-clause-goes c = progress (λ c. c) _ _ _ _ (returns-clause-steps c)
