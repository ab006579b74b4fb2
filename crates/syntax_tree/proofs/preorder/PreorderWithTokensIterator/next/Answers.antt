use Rattle.std.proofs.Common.{◌∙◌, ◌+◌, arith, ap, sym, length, map}
use Rattle.syntax_tree.specs.Trees.{Entered}
use Rattle.syntax_tree.specs.Walks.{visiting, in_tree}
use Rattle.syntax_tree.proofs.ChildrenLeft.{progress}
use Rattle.syntax_tree.proofs.WalksEvents.{Visits, gives_last, gives_leave, gives_enter}
use Rattle.syntax_tree.proofs.preorder.PreorderWithTokensIterator.next.Goals as goal
use Rattle.syntax_tree.proofs.preorder.PreorderWithTokensIterator.next.Goals.{Then-entered-self, Else-entered-self, Else-at-len, then-entered-self, else-entered-self}

-- ---- an element is left

pub invariant_of-self : goal.invariant_of-self
invariant_of-self c = (gives_last c.self.inside.tree.now c.self.inside.root _ c.self.invariant (sym c.ends_before.ensures ∙ c.if-ends_before.true) c.if-entered-self.true).on

pub invariant_of-self-else-entered-self : goal.invariant_of-self-else-entered-self
invariant_of-self-else-entered-self c =
    rw c.parent_place-self-inside.ensures.parent
    (gives_leave c.self.inside.tree.now c.self.inside.root _ c.self.invariant (sym c.ends_before.ensures ∙ c.if-ends_before.true) c.if-entered-self.false).on

pub returns-then-ends_before-clause-steps : goal.returns-then-ends_before-clause-steps
returns-then-ends_before-clause-steps c =
    let laid = c.self.inside.tree.now in
    let ends = sym c.ends_before.ensures ∙ c.if-ends_before.true in
    elim c.if-entered-self.branch [
      | then-entered-self w ↦
          rw w.self-is (sym c.self.view_is ∙ ap (map (in_tree laid)) (gives_last laid c.self.inside.root _ c.self.invariant ends w.if-entered-self.true).gives)
      | else-entered-self w ↦
          rw (w.self-is, w.parent_place-self-inside.ensures.parent)
          (sym c.self.view_is ∙ ap (map (in_tree laid)) (gives_leave laid c.self.inside.root _ c.self.invariant ends w.if-entered-self.false).gives)
    ]

pub returns-then-ends_before-clause-goes : goal.returns-then-ends_before-clause-goes
returns-then-ends_before-clause-goes c = progress (λ s. s) _ _ _ _ (returns-then-ends_before-clause-steps c)

-- ---- an element is entered

module _ (c : Else-at-len) where
  enter : Visits c.self.inside.tree.now c.self.inside.root (visiting c.self.inside.at c.self.inside.entered) (visiting (c.self.inside.at + 1) c.self.inside.at)
      (Entered c.self.inside.at)
  enter =
      gives_enter c.self.inside.tree.now c.self.inside.root _ c.self.invariant (sym c.ends_before.ensures ∙ c.if-ends_before.false)
      (omega (arith, c.if-at-len.false, c.len.ensures, c.tree.inside.elements.ok, ap (λ l. length l.elements) c.tree.view_is))

pub invariant_of-self-2 : goal.invariant_of-self-2
invariant_of-self-2 c = (enter (goal.at.invariant_of-self-2 c).Else-at-len).on

pub returns-clause-steps : goal.returns-clause-steps
returns-clause-steps c = sym c.self.view_is ∙ ap (map (in_tree c.self.inside.tree.now)) (enter (goal.at.returns-clause-steps c).Else-at-len).gives

pub returns-clause-goes : goal.returns-clause-goes
returns-clause-goes c = progress (λ s. s) _ _ _ _ (returns-clause-steps c)
