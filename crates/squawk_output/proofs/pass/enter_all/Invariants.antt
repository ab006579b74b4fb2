use Rattle.std.proofs.Common.{length}
use Rattle.squawk_output.specs.Pass.{Enters}
use Rattle.squawk_output.proofs.pass.enter_all.Given as goal

abbrev pub invariant-loop-kind : goal.invariant-loop-kind
invariant-loop-kind l = Enters l.initial.kinds.items l.initial.builder l.kinds.items l.builder

abbrev pub decreases-loop-kind : goal.decreases-loop-kind
decreases-loop-kind l = length l.kinds.items
