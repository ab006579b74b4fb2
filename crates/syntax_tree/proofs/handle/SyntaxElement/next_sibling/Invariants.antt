use Rattle.std.proofs.Common.{◌-◌, length}
use Rattle.syntax_tree.proofs.SiblingLoops.{GoesOn}
use Rattle.syntax_tree.proofs.handle.SyntaxElement.next_sibling.Given as goal

abbrev pub invariant-loop-next : goal.invariant-loop-next
invariant-loop-next l = GoesOn l.self l.next

abbrev pub decreases-loop-next : goal.decreases-loop-next
decreases-loop-next l = length l.next.tree.now.elements - l.next.at
