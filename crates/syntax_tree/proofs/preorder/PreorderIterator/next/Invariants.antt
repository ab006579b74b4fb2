use Rattle.std.proofs.Common.{◌≡◌, length, filter}
use Rattle.syntax_tree.specs.Walks.{is_of_node}
use Rattle.syntax_tree.proofs.preorder.PreorderIterator.next.Given as goal

abbrev pub invariant-loop-event : goal.invariant-loop-event
invariant-loop-event l = filter is_of_node l.initial.self-inside.all ≡ filter is_of_node l.self-inside.all

abbrev pub decreases-loop-event : goal.decreases-loop-event
decreases-loop-event l = length l.self-inside.all
