use Rattle.std.proofs.Common.{◌≡◌, ◌∙◌, ◌<◌, length, ap, sym, arith}
use Rattle.squawk_tree.specs.Forest.{Forest}
use Rattle.syntax_tree.specs.Layout.{IsTree}
use Rattle.syntax_tree.specs.Trees.{AreNeighbours, IsLast}
use Rattle.syntax_tree.specs.Views.{element_in}
use Rattle.syntax_tree.proofs.Siblings.{parent_before, root_only, no_next, next, placed}
use Rattle.syntax_tree.proofs.handle.SyntaxElement.next_sibling_or_token.Goals as goal
use Rattle.syntax_tree.proofs.handle.SyntaxElement.next_sibling_or_token.Goals.{then-element-via-then-element, then-element-via-else-element+then-element-behind, Else-element-behind}

pub at-requires : goal.at-requires
at-requires c =
    let held = c.element-element.ensures.tree in
    let read = c.element-element.ensures.element in
    let before = parent_before c.args.self.tree.now held.tree held.is c.args.self.at c.args.self.within (rw read at c.if-element.false) in
    rw read (omega (arith, before, c.args.self.within))

pub returns-then-element : goal.returns-then-element
returns-then-element c = λ tree is.
    let laid = c.args.self.tree.now in
    let read = c.element-element.ensures.element in
    elim c.then-element.branch [
      | then-element-via-then-element w ↦
          IsLast.Root (root_only laid tree is c.args.self.at c.args.self.within c.element-element.ensures.tree.few (rw read at w.if-element.true))
      | then-element-via-else-element+then-element-behind w ↦
          let behind = w.behind.ensures.behind ∙ ap (λ a. (element_in a.laid a.at).behind) w.at.ensures in
          no_next laid tree is c.args.self.at c.args.self.within (rw read at w.if-element.false)
          (rw read at (w.if-element-behind.true ∙ behind))
    ]

module _ (c : Else-element-behind) (tree : Forest) (is : IsTree c.args.self.tree.now tree) where
  follows : (c.element-element.result.behind < length c.args.self.tree.now.elements) × AreNeighbours tree c.args.self.at c.element-element.result.behind
  follows =
      let read = c.element-element.ensures.element in
      let behind = c.behind.ensures.behind ∙ ap (λ a. (element_in a.laid a.at).behind) c.at.ensures in
      let differs : c.element-element.result.behind ≡ (element_in c.args.self.tree.now c.element-element.result.parent).behind → ⊥ =
      λ same. c.if-element-behind.false (same ∙ sym behind) in
      rw read (next c.args.self.tree.now tree is c.args.self.at c.args.self.within (rw read at c.if-element.false) (rw read at differs))

pub at-requires-2 : goal.at-requires-2
at-requires-2 c =
    let held = c.element-element.ensures.tree in
    (follows c held.tree held.is).0

pub returns : goal.returns
returns c = λ tree is.
    placed c.at-2.result c.args.self.tree.now c.element-element.result.behind c.at-2.ensures (AreNeighbours tree c.args.self.at)
    (follows (goal.at.returns c).Else-element-behind tree is).1
