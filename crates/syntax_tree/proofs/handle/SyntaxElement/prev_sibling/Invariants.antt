use Rattle.syntax_tree.proofs.SiblingLoops.{GoesBack}
use Rattle.syntax_tree.proofs.handle.SyntaxElement.prev_sibling.Given as goal

abbrev pub invariant-loop-previous : goal.invariant-loop-previous
invariant-loop-previous l = GoesBack l.self l.previous

abbrev pub decreases-loop-previous : goal.decreases-loop-previous
decreases-loop-previous l = l.previous.at
