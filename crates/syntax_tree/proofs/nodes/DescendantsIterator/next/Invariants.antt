use Rattle.std.proofs.Common.{◌≡◌, length}
use Rattle.syntax_tree.specs.Views.{nodes_left}
use Rattle.syntax_tree.proofs.nodes.DescendantsIterator.next.Given as goal

abbrev pub invariant-loop-element : goal.invariant-loop-element
invariant-loop-element l = nodes_left l.self-inside.all ≡ l.fn.self

abbrev pub decreases-loop-element : goal.decreases-loop-element
decreases-loop-element l = length l.self-inside.all
