use Rattle.std.proofs.Common.{arith}
use Rattle.squawk_output.proofs.Links.{LeadsOn-Lands}
use Rattle.squawk_output.proofs.event.process.Goals as goal

pub push-requires-clause-leads : goal.push-requires-clause-leads
push-requires-clause-leads c =
    LeadsOn-Lands c.in-Some.event c.next.new.self.rest.items c.loop-event.event-iterator.rest.items c.in-Some.ensures.steps.0 c.loop-event.invariant.links
    (omega (arith, c.loop-event.invariant.whole, c.requires.few))
