use Rattle.std.proofs.Common.{◌≡◌, length}
use Rattle.syntax_tree.specs.Views.{kinds_left}
use Rattle.syntax_tree.proofs.by_kind.DescendantsByKindIterator.next.Given as goal

abbrev pub invariant-loop-node : goal.invariant-loop-node
invariant-loop-node l = (l.self-inside.kind ≡ l.initial.self-inside.kind) × (kinds_left l.self-inside.kind l.self-inside.all ≡ l.fn.self)

abbrev pub decreases-loop-node : goal.decreases-loop-node
decreases-loop-node l = length l.self-inside.all
