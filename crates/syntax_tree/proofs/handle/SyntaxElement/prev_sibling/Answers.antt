use Rattle.syntax_tree.proofs.NextNode.{neighbours_before, first_alone}
use Rattle.syntax_tree.proofs.SiblingLoops.{done_previous, step_previous, end_previous, fewer_before}
use Rattle.syntax_tree.proofs.handle.SyntaxElement.prev_sibling.Goals as goal

pub returns-in_err-previous : goal.returns-in_err-previous
returns-in_err-previous c = λ tree is. rw c.from_residual.ensures (first_alone tree c.args.self.at (c.in_err-previous.ensures tree is))

pub loop-previous-init : goal.loop-previous-init
loop-previous-init c = λ tree is.
    let first = c.in_ok-previous.ensures tree is in
    (first.0, neighbours_before tree c.in_ok-previous.previous.at c.args.self.at first.1)

pub returns-in_err-previous-2 : goal.returns-in_err-previous-2
returns-in_err-previous-2 c = λ tree is.
    rw c.from_residual-in_err-previous-2.ensures
    (end_previous c.args.self c.loop-previous.previous c.element.result c.element.ensures.element c.loop-previous-test.true c.in_err-previous-2.ensures c.loop-previous.invariant tree is)

pub loop-previous-smaller : goal.loop-previous-smaller
loop-previous-smaller c = fewer_before c.loop-previous.previous c.in_ok-previous-2.previous c.element.ensures.tree c.in_ok-previous-2.ensures

pub loop-previous-preserved : goal.loop-previous-preserved
loop-previous-preserved c =
    step_previous c.args.self c.loop-previous.previous c.element.result c.element.ensures.element c.loop-previous-test.true c.in_ok-previous-2.previous c.in_ok-previous-2.ensures
    c.loop-previous.invariant

pub returns : goal.returns
returns c = done_previous c.args.self c.loop-previous.previous c.element.result c.element.ensures.element c.loop-previous-test.false c.loop-previous.invariant
