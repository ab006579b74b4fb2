-- Events as numbers.
use Rattle.std.specs.Prelude.{ℕ, ◌==◌, ◌&&◌, Option, Some, None, List, [], ◌∷◌, if◌then◌else◌, length, map, nat_le, nat_lt, option_map, slice_range}
use Rattle.std.specs.List.{slice_index_or}
use Rattle.std.specs.Str.{chars, is_utf8}
use Rattle.squawk_output.specs.declared.event.Event.{Event}
use Rattle.squawk_output.specs.declared.event.Event.TheVariants as event
use Rattle.caliperdock_c.specs.declared.event.CEvent.{CEvent}

-- the bytes of messages from one place to another, if they are there and UTF-8
abbrev pub message_in : List ℕ → ℕ → ℕ → Option (List ℕ)
message_in messages start end =
    if nat_le start end && nat_le end (length messages) && is_utf8 (slice_range messages start end) then Some (slice_range messages start end) else None

-- what an event is by its number, from the first on
abbrev pub events_numbered : List ℕ → CEvent → List (Option Event)
events_numbered messages e =
    Some (event.Start e.kind (if e.a == 0 then None else Some e.a))
    ∷ Some event.Finish
    ∷ (if nat_lt e.a 256 then Some (event.Token e.kind e.a) else None)
    ∷ option_map (λ message. event.Error (chars message)) (message_in messages e.a e.b)
    ∷ []

-- the event, if its number is one's
abbrev pub event_of : List ℕ → CEvent → Option Event
event_of messages e = slice_index_or (events_numbered messages e) e.tag None

-- the event, or a finish where there is none
abbrev pub or_finish : Option Event → Event
or_finish None = event.Finish
or_finish (Some e) = e

-- the event that is written so, or a finish
abbrev pub event_or_finish : List ℕ → CEvent → Event
event_or_finish messages e = or_finish (event_of messages e)

-- the log of the events, where each is written as one
abbrev pub log_of : List ℕ → List CEvent → List Event
log_of messages events = map (event_or_finish messages) events
