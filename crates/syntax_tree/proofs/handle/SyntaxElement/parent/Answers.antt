use Rattle.std.proofs.Common.{arith}
use Rattle.syntax_tree.specs.Trees.{IsChild}
use Rattle.syntax_tree.proofs.Siblings.{parent_before, root_only, is_child, placed}
use Rattle.syntax_tree.proofs.handle.SyntaxElement.parent.Goals as goal

pub at-requires : goal.at-requires
at-requires c =
    let held = c.element-parent.ensures.tree in
    let read = c.element-parent.ensures.element in
    let before = parent_before c.args.self.tree.now held.tree held.is c.args.self.at c.args.self.within (rw read at c.if-parent.false) in
    rw read (omega (arith, before, c.args.self.within))

pub returns-then-parent : goal.returns-then-parent
returns-then-parent c = λ tree is.
    root_only c.args.self.tree.now tree is c.args.self.at c.args.self.within c.element-parent.ensures.tree.few (rw c.element-parent.ensures.element at c.if-parent.true)

pub returns : goal.returns
returns c = λ tree is.
    let read = c.element-parent.ensures.element in
    placed c.at.result c.args.self.tree.now c.element-parent.result.parent c.at.ensures (λ node. IsChild tree node c.args.self.at)
    (rw read (is_child c.args.self.tree.now tree is c.args.self.at c.args.self.within (rw read at c.if-parent.false)))
