use Rattle.std.proofs.Common.{◌∙◌, ◌<◌, length, ap, arith}
use Rattle.squawk_tree.specs.Forest.{Forest}
use Rattle.syntax_tree.specs.Layout.{IsTree}
use Rattle.syntax_tree.specs.Trees.{AreNeighbours, IsFirst}
use Rattle.syntax_tree.specs.Views.{element_in}
use Rattle.syntax_tree.proofs.Siblings.{parent_before, root_only, no_previous, previous, placed}
use Rattle.syntax_tree.proofs.handle.SyntaxElement.prev_sibling_or_token.Goals as goal
use Rattle.syntax_tree.proofs.handle.SyntaxElement.prev_sibling_or_token.Goals.{then-parent-via-then-parent, then-parent-via-else-parent+then-parent-self, After-element}

pub returns-then-parent : goal.returns-then-parent
returns-then-parent c = λ tree is.
    let laid = c.args.self.tree.now in
    let read = c.element-parent.ensures.element in
    elim c.then-parent.branch [
      | then-parent-via-then-parent w ↦
          IsFirst.Root (root_only laid tree is c.args.self.at c.args.self.within c.element-parent.ensures.tree.few (rw read at w.if-parent.true))
      | then-parent-via-else-parent+then-parent-self w ↦
          no_previous laid tree is c.args.self.at c.args.self.within (rw read at w.if-parent.false) (rw read at w.if-parent-self.true)
    ]

pub overflow_sub-self : goal.overflow_sub-self
overflow_sub-self c =
    let held = c.element-parent.ensures.tree in
    let before = parent_before c.args.self.tree.now held.tree held.is c.args.self.at c.args.self.within (rw c.element-parent.ensures.element at c.if-parent.false) in
    omega (arith, before)

module _ (c : After-element) (tree : Forest) (is : IsTree c.args.self.tree.now tree) where
  precedes : (c.element.result.last < length c.args.self.tree.now.elements) × AreNeighbours tree c.element.result.last c.args.self.at
  precedes =
      let read = c.element-parent.ensures.element in
      let leaf = c.element.ensures.element ∙ ap (λ a. element_in a.laid a.at) c.at-leaf.ensures in
      rw leaf (previous c.args.self.tree.now tree is c.args.self.at c.args.self.within (rw read at c.if-parent.false) (rw read at c.if-parent-self.false))

pub at-requires : goal.at-requires
at-requires c =
    let held = c.element-parent.ensures.tree in
    (precedes c held.tree held.is).0

pub returns : goal.returns
returns c = λ tree is.
    placed c.at.result c.args.self.tree.now c.element.result.last c.at.ensures (λ at. AreNeighbours tree at c.args.self.at)
    (precedes (goal.at.returns c).After-element tree is).1
