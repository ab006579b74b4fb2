use Rattle.std.proofs.Common.{◌-◌, ◌≤◌, length}
use Rattle.squawk_output.specs.Pass.{PassesList}
use Rattle.squawk_output.proofs.pass.pass.Given as goal

abbrev pub invariant-loop-index : goal.invariant-loop-index
invariant-loop-index l =
    PassesList l.initial.events.items l.initial.builder.texts l.events.items l.builder l.kinds.items l.index × (l.index ≤ length l.events.items)

abbrev pub decreases-loop-index : goal.decreases-loop-index
decreases-loop-index l = length l.events.items - l.index
