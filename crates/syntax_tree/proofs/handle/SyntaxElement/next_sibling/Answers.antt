use Rattle.syntax_tree.proofs.NextNode.{neighbours_before, last_alone}
use Rattle.syntax_tree.proofs.SiblingLoops.{done_next, step_next, end_next, fewer_behind}
use Rattle.syntax_tree.proofs.handle.SyntaxElement.next_sibling.Goals as goal

pub returns-in_err-next : goal.returns-in_err-next
returns-in_err-next c = λ tree is. rw c.from_residual.ensures (last_alone tree c.args.self.at (c.in_err-next.ensures tree is))

pub loop-next-init : goal.loop-next-init
loop-next-init c = λ tree is.
    let first = c.in_ok-next.ensures tree is in
    (first.0, neighbours_before tree c.args.self.at c.in_ok-next.next.at first.1)

pub returns-in_err-next-2 : goal.returns-in_err-next-2
returns-in_err-next-2 c = λ tree is.
    rw c.from_residual-in_err-next-2.ensures
    (end_next c.args.self c.loop-next.next c.element.result c.element.ensures.element c.loop-next-test.true c.in_err-next-2.ensures c.loop-next.invariant tree is)

pub loop-next-smaller : goal.loop-next-smaller
loop-next-smaller c = fewer_behind c.loop-next.next c.in_ok-next-2.next c.element.ensures.tree c.in_ok-next-2.ensures

pub loop-next-preserved : goal.loop-next-preserved
loop-next-preserved c =
    step_next c.args.self c.loop-next.next c.element.result c.element.ensures.element c.loop-next-test.true c.in_ok-next-2.next c.in_ok-next-2.ensures c.loop-next.invariant

pub returns : goal.returns
returns c = done_next c.args.self c.loop-next.next c.element.result c.element.ensures.element c.loop-next-test.false c.loop-next.invariant
