use Rattle.squawk_output.specs.Pass.{Copies}
use Rattle.squawk_output.proofs.event.process.Given as goal

abbrev pub invariant-loop-event : goal.invariant-loop-event
invariant-loop-event l = Copies l.fn.events.items l.yielded l.event-iterator.rest.items l.list
