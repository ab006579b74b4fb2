use Rattle.std.proofs.Common.{◌-◌, length}
use Rattle.squawk_output.specs.Pass.{VisitsTo}
use Rattle.squawk_output.specs.StoredEvents.{log_in}
use Rattle.squawk_output.proofs.pass.visit_plain.Given as goal

abbrev pub invariant-loop-at : goal.invariant-loop-at
invariant-loop-at l = VisitsTo (log_in l.initial.builder.texts l.events) l.initial.builder l.builder l.index l.at

abbrev pub decreases-loop-at : goal.decreases-loop-at
decreases-loop-at l = length l.events - l.at
