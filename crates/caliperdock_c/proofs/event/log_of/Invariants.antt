use Rattle.std.proofs.Common.{◌≡◌, ◌<◌, ℕ, Some, map, take}
use Rattle.caliperdock_c.specs.Events.{event_of, log_of}
use Rattle.caliperdock_c.specs.Links.{LandsAt}
use Rattle.caliperdock_c.proofs.event.log_of.Given as goal

abbrev pub invariant-loop-index : goal.invariant-loop-index
invariant-loop-index l = record {
  known : map Some (log_of l.messages (take l.index l.events)) ≡ map (event_of l.messages) (take l.index l.events);
  kept : l.log ≡ log_of l.messages (take l.index l.events);
  land : (k : ℕ) → k < l.index → LandsAt (log_of l.messages l.events) k;
}
