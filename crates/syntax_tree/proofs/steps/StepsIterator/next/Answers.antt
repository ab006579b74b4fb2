use Rattle.std.proofs.Common.{◌∙◌, ◌+◌, ◌<◌, arith, ap, sym, length}
use Rattle.squawk_table.specs.declared.shortcuts.str_step.OwnedStep.TheVariants as step
use Rattle.syntax_tree.specs.Trees.{text_at}
use Rattle.syntax_tree.specs.Views.{element_in}
use Rattle.syntax_tree.specs.Walks.{walking, error_in}
use Rattle.syntax_tree.proofs.ChildrenLeft.{progress}
use Rattle.syntax_tree.proofs.WalksSteps.{Steps, gives_error, gives_exit, gives_token, gives_enter}
use Rattle.syntax_tree.proofs.steps.StepsIterator.next.Goals as goal
use Rattle.syntax_tree.proofs.steps.StepsIterator.next.Goals.{Then-has_error, Then-ends_before, Else-at-len, Then-element, Else-element}

-- ---- an error

module _ (c : Then-has_error) where
  error : Steps c.self.inside.tree.now (walking c.self.inside.at c.self.inside.node c.self.inside.error c.self.inside.given)
      (walking c.self.inside.at c.self.inside.node (c.self.inside.error + 1) (c.self.inside.given + 1))
      (step.Error (error_in c.self.inside.tree.now c.self.inside.error).msg (error_in c.self.inside.tree.now c.self.inside.error).pos)
  error = gives_error c.self.inside.tree.now _ c.self.invariant (sym c.has_error.ensures.error ∙ c.if-has_error.true)

pub invariant_of-self : goal.invariant_of-self
invariant_of-self c = (error (goal.at.invariant_of-self c).Then-has_error).on

pub returns-then-has_error-clause-steps : goal.returns-then-has_error-clause-steps
returns-then-has_error-clause-steps c =
    rw (c.message-msg.ensures, c.pos-pos.ensures) (sym c.self.view_is ∙ (error (goal.at.returns-then-has_error-clause-steps c).Then-has_error).gives)

pub returns-then-has_error-clause-goes : goal.returns-then-has_error-clause-goes
returns-then-has_error-clause-goes c = progress (λ s. s) _ _ _ _ (returns-then-has_error-clause-steps c)

-- ---- the end of a node

module _ (c : Then-ends_before) where
  exit : Steps c.self.inside.tree.now (walking c.self.inside.at c.self.inside.node c.self.inside.error c.self.inside.given)
      (walking c.self.inside.at (element_in c.self.inside.tree.now c.self.inside.node).parent c.self.inside.error (c.self.inside.given + 1)) step.Exit
  exit = gives_exit c.self.inside.tree.now _ c.self.invariant (sym c.has_error.ensures.error ∙ c.if-has_error.false) (sym c.ends_before.ensures ∙ c.if-ends_before.true)

pub invariant_of-self-then-ends_before : goal.invariant_of-self-then-ends_before
invariant_of-self-then-ends_before c =
    rw c.parent_place-self-inside.ensures.parent (exit (goal.at.invariant_of-self-then-ends_before c).Then-ends_before).on

pub returns-then-ends_before-clause-steps : goal.returns-then-ends_before-clause-steps
returns-then-ends_before-clause-steps c =
    rw c.parent_place-self-inside.ensures.parent (sym c.self.view_is ∙ (exit (goal.at.returns-then-ends_before-clause-steps c).Then-ends_before).gives)

pub returns-then-ends_before-clause-goes : goal.returns-then-ends_before-clause-goes
returns-then-ends_before-clause-goes c = progress (λ s. s) _ _ _ _ (returns-then-ends_before-clause-steps c)

-- ---- a token, or a node

below : (c : Else-at-len) → c.self.inside.at < length c.self.inside.tree.now.elements
below c = omega (arith, c.if-at-len.false, c.len.ensures, c.tree.inside.elements.ok, ap (λ l. length l.elements) c.tree.view_is)

module _ (c : Then-element) where
  token : Steps c.self.inside.tree.now (walking c.self.inside.at c.self.inside.node c.self.inside.error c.self.inside.given)
      (walking (c.self.inside.at + 1) c.self.inside.node c.self.inside.error (c.self.inside.given + 1))
      (step.Token c.element-element.result.kind (text_at c.element-element.ensures.tree.tree c.self.inside.at))
  token =
      gives_token c.self.inside.tree.now _ c.self.invariant (sym c.has_error.ensures.error ∙ c.if-has_error.false) (sym c.ends_before.ensures ∙ c.if-ends_before.false)
      (below (goal.at.Then-element c).Else-at-len) c.element-element.result c.element-element.ensures.element c.if-element.true
      c.element-element.ensures.tree.tree c.element-element.ensures.tree.is

pub invariant_of-self-then-element : goal.invariant_of-self-then-element
invariant_of-self-then-element c = (token (goal.at.invariant_of-self-then-element c).Then-element).on

pub returns-then-element-clause-steps : goal.returns-then-element-clause-steps
returns-then-element-clause-steps c =
    let held = c.element-element.ensures.tree in
    let text = c.text-text.ensures held.tree held.is in
    rw text (sym c.self.view_is ∙ (token (goal.at.returns-then-element-clause-steps c).Then-element).gives)

pub returns-then-element-clause-goes : goal.returns-then-element-clause-goes
returns-then-element-clause-goes c = progress (λ s. s) _ _ _ _ (returns-then-element-clause-steps c)

module _ (c : Else-element) where
  node : Steps c.self.inside.tree.now (walking c.self.inside.at c.self.inside.node c.self.inside.error c.self.inside.given)
      (walking (c.self.inside.at + 1) c.self.inside.at c.self.inside.error (c.self.inside.given + 1)) (step.Enter c.element-element.result.kind)
  node =
      gives_enter c.self.inside.tree.now _ c.self.invariant (sym c.has_error.ensures.error ∙ c.if-has_error.false) (sym c.ends_before.ensures ∙ c.if-ends_before.false)
      (below (goal.at.Else-element c).Else-at-len) c.element-element.result c.element-element.ensures.element c.if-element.false

pub invariant_of-self-2 : goal.invariant_of-self-2
invariant_of-self-2 c = (node (goal.at.invariant_of-self-2 c).Else-element).on

pub returns-clause-steps : goal.returns-clause-steps
returns-clause-steps c = sym c.self.view_is ∙ (node (goal.at.returns-clause-steps c).Else-element).gives

pub returns-clause-goes : goal.returns-clause-goes
returns-clause-goes c = progress (λ s. s) _ _ _ _ (returns-clause-steps c)
