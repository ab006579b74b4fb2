use Rattle.std.proofs.Common.{◌∙◌, ap, sym, map}
use Rattle.syntax_tree.specs.Views.{place_in}
use Rattle.syntax_tree.proofs.Ancestors.{GivesAncestor, next_ancestor}
use Rattle.syntax_tree.proofs.ChildrenLeft.{progress}
use Rattle.syntax_tree.proofs.walks.AncestorsIterator.next.Goals as goal
use Rattle.syntax_tree.proofs.walks.AncestorsIterator.next.Goals.{After-parent_place-self-inside}

given : (c : After-parent_place-self-inside) → GivesAncestor c.self.inside.tree.now c.self.inside.at c.self.inside.next
given c =
    let held = c.parent_place-self-inside.ensures.tree in
    next_ancestor c.self.inside.tree.now held.tree held.is held.few c.self.inside.at c.self.inside.next c.self.invariant c.if-self.false

pub invariant_of-self : goal.invariant_of-self
invariant_of-self c = rw c.parent_place-self-inside.ensures.parent (given (goal.at.invariant_of-self c).After-parent_place-self-inside).on

pub returns-clause-steps : goal.returns-clause-steps
returns-clause-steps c =
    rw c.parent_place-self-inside.ensures.parent (sym c.self.view_is ∙ ap (map (place_in c.self.inside.tree.now)) (given (goal.at.returns-clause-steps c).After-parent_place-self-inside).gives)

pub returns-clause-goes : goal.returns-clause-goes
returns-clause-goes c = progress (λ a. a) _ _ _ _ (returns-clause-steps c)
