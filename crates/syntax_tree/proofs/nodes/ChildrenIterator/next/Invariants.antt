use Rattle.std.proofs.Common.{◌≡◌, length}
use Rattle.syntax_tree.specs.Views.{nodes_left}
use Rattle.syntax_tree.proofs.nodes.ChildrenIterator.next.Given as goal

abbrev pub invariant-loop-child : goal.invariant-loop-child
invariant-loop-child l = nodes_left l.self-inside.all ≡ l.fn.self

abbrev pub decreases-loop-child : goal.decreases-loop-child
decreases-loop-child l = length l.self-inside.all
