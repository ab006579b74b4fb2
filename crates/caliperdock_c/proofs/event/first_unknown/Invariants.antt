use Rattle.std.proofs.Common.{◌≡◌, Some, map, take}
use Rattle.caliperdock_c.specs.Events.{event_of, log_of}
use Rattle.caliperdock_c.proofs.event.first_unknown.Given as goal

abbrev pub invariant-loop-index : goal.invariant-loop-index
invariant-loop-index l = map Some (log_of l.messages (take l.index l.events)) ≡ map (event_of l.messages) (take l.index l.events)
