-- The events of a log as a list keeps them.
use Rattle.std.specs.Prelude.{◌≡◌, ℕ, ◌+◌, ◌==◌, ◌<◌, ◌^◌, Bool, true, false, Option, Some, None, All, List, [], length, map, slice_index_or, if◌then◌else◌}
use Rattle.squawk_output.specs.Chain.{tombstone}
use Rattle.squawk_output.specs.EventLog.{Log, errors_logged}
use Rattle.squawk_output.specs.declared.event.Event.{Event}
use Rattle.squawk_output.specs.declared.event.Event.TheVariants as event

-- an event whose text, if it is an error, is kept elsewhere
pub data StoredEvent : Type 0 where
  -- the Start of an open marker, which has neither a kind nor a link
  OpenMarker : StoredEvent
  -- the beginning of a node of a kind, and by how many events its link leads forward, or 0
  Start : ℕ → ℕ → StoredEvent
  -- the end of a node
  Finish : StoredEvent
  -- a token of a kind, and how many input tokens it has
  Token : ℕ → ℕ → StoredEvent
  -- an error by its number, counted from 0
  Error : ℕ → StoredEvent

-- a link of distance 0 is none
abbrev pub link_of : ℕ → Option ℕ
link_of link = if link == 0 then None else Some link

-- the link of an event, if it has one, leads forward, and not past the last index that a log can have
abbrev pub LeadsOn : Event → Type 0
LeadsOn (event.Start kind (Some distance)) = (0 < distance) × (distance + 1 < 2 ^ 32)
LeadsOn other = Unit {0}

-- the event that is kept so, beside the texts of a list's errors
abbrev pub event_of : List (List ℕ) → StoredEvent → Event
event_of texts OpenMarker = tombstone
event_of texts (Start kind link) = event.Start kind (link_of link)
event_of texts Finish = event.Finish
event_of texts (Token kind n) = event.Token kind n
event_of texts (Error number) = event.Error (slice_index_or texts number [])

-- whether it is an open marker's
abbrev pub is_open_event : StoredEvent → Bool
is_open_event OpenMarker = true
is_open_event stored = false

-- the text is there
abbrev pub HasEventText : List (List ℕ) → StoredEvent → Type 0
HasEventText texts (Error number) = number < length texts
HasEventText texts stored = Unit {0}

-- the log that is kept so
abbrev pub log_in : List (List ℕ) → List StoredEvent → Log
log_in texts events = map (event_of texts) events

-- the text of every error is there
abbrev pub HaveEventTexts : List (List ℕ) → List StoredEvent → Type 0
HaveEventTexts texts events = All (HasEventText texts) events

-- the texts beside a list of events are those of its errors
pub record AreStored (texts : List (List ℕ)) (events : List StoredEvent) : Type 0 where
  pub have_texts : HaveEventTexts texts events
  pub errors : length texts ≡ errors_logged (log_in texts events)
