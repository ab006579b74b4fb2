use Rattle.std.proofs.Common.{◌≡◌, length}
use Rattle.syntax_tree.specs.Errors.{errors_between}
use Rattle.syntax_tree.proofs.errors.ErrorsInIterator.next.Given as goal

abbrev pub invariant-loop-error : goal.invariant-loop-error
invariant-loop-error l =
    (l.self-inside.at ≡ l.initial.self-inside.at)
    × (l.self-inside.behind ≡ l.initial.self-inside.behind)
    × (errors_between l.self-inside.at l.self-inside.behind l.initial.self-inside.all ≡ errors_between l.self-inside.at l.self-inside.behind l.self-inside.all)

abbrev pub decreases-loop-error : goal.decreases-loop-error
decreases-loop-error l = length l.self-inside.all
