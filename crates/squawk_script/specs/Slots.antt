-- The markers and nodes that a run holds.
use Rattle.std.specs.Prelude.{◌≡◌, ◌≢◌, ℕ, ◌<◌, ◌==◌, ◌&&◌, Bool, true, false, not, Some, List, [], ◌∷◌, ◌++◌, Contains, length, map, slice_index_or, slice_set, nat_lt, ⊤}
use Rattle.squawk_kinds.specs.Kinds.{TOMBSTONE}
use Rattle.squawk_output.specs.Draft as draft
use Rattle.squawk_output.specs.Draft.{Item, Mark, Node, errors_of}
use Rattle.squawk_parser.specs.State.{State, HasNotFailed}
use Rattle.squawk_parser.specs.declared.parser.parse_error.ParseError.{ParseError}
use Rattle.squawk_parser.specs.declared.parser.parse_error.ParseError.TheVariants.{OutOfMemory}
use Rattle.squawk_script.specs.Accepted.{is_edible}
use Rattle.squawk_script.specs.Events.{errors_among, events_made, refusal}
use Rattle.squawk_script.specs.Meaning.{Run, marker_at, seen, stepped}
use Rattle.squawk_script.specs.declared.call.Call.{Call}
use Rattle.squawk_script.specs.declared.call.Call.TheVariants as calls
use Rattle.squawk_script.specs.declared.status.Status.{Status}
use Rattle.squawk_script.specs.declared.status.Status.TheVariants as status
use Rattle.squawk_script.specs.declared.slot.Slot.{Slot}
use Rattle.squawk_script.specs.declared.slot.Slot.TheVariants.{Open, Done, Spent}

-- ---- statuses

abbrev pub status_at : List Status → ℕ → Status
status_at statuses m = slice_index_or statuses m status.Spent

abbrev pub is_status_open : Status → Bool
is_status_open status.Open = true
is_status_open status.AtHand = false
is_status_open status.Spent = false

abbrev pub is_status_at_hand : Status → Bool
is_status_at_hand status.Open = false
is_status_at_hand status.AtHand = true
is_status_at_hand status.Spent = false

-- whether a call can be made with these statuses
abbrev pub is_admitted : List Status → Call → Bool
is_admitted statuses calls.Start = nat_lt (length statuses) 4294967296
is_admitted statuses (calls.Complete marker kind) = is_status_open (status_at statuses marker) && not (kind == TOMBSTONE)
is_admitted statuses (calls.Abandon marker) = is_status_open (status_at statuses marker)
is_admitted statuses (calls.Precede node) = is_status_at_hand (status_at statuses node) && nat_lt (length statuses) 4294967296
is_admitted statuses (calls.ExtendTo node marker) =
    is_status_at_hand (status_at statuses node) && (is_status_open (status_at statuses marker) && nat_lt marker node)
is_admitted statuses (calls.Eat kind) = is_edible kind
is_admitted statuses (calls.Expect kind) = is_edible kind
is_admitted statuses call = true

-- the statuses after a call
abbrev pub advanced : List Status → Call → List Status
advanced statuses calls.Start = statuses ++ status.Open ∷ []
advanced statuses (calls.Complete marker kind) = slice_set statuses marker status.AtHand
advanced statuses (calls.Abandon marker) = slice_set statuses marker status.Spent
advanced statuses (calls.Precede node) = slice_set statuses node status.Spent ++ status.Open ∷ []
advanced statuses (calls.ExtendTo node marker) = slice_set statuses marker status.Spent
advanced statuses call = statuses

-- ---- slots

abbrev pub slot_at : List Slot → ℕ → Slot
slot_at slots m = slice_index_or slots m Spent

abbrev pub status_of : Slot → Status
status_of (Open m) = status.Open
status_of (Done n) = status.AtHand
status_of Spent = status.Spent

abbrev pub statuses_of : List Slot → List Status
statuses_of slots = map status_of slots

-- the slot is what the draft has
abbrev pub IsHeld : List Item → Slot → Type 0
IsHeld items (Open m) = Contains items (draft.OpenMarker m.id m.made)
IsHeld items (Done n) = Contains items (draft.Open n.id n.kind true)
IsHeld items Spent = ⊤

-- the id that a slot has is above this one
abbrev pub IsBelow : ℕ → Slot → Type 0
IsBelow id (Open m) = id < m.id
IsBelow id (Done n) = id < n.id
IsBelow id Spent = ⊤

-- the first slot's id is below the second's
abbrev pub AreInOrder : Slot → Slot → Type 0
AreInOrder (Open m) slot = IsBelow m.id slot
AreInOrder (Done n) slot = IsBelow n.id slot
AreInOrder Spent slot = ⊤

-- The slots are what the draft has, in the order of their ids, and it has no other open markers.
pub record Holds (items : List Item) (slots : List Slot) : Type 0 where
  pub each : (i : ℕ) → IsHeld items (slot_at slots i)
  pub order : (i j : ℕ) → i < j → AreInOrder (slot_at slots i) (slot_at slots j)
  pub covers : (m : Mark) → Contains items (draft.OpenMarker m.id m.made) → Contains slots (Open m)

-- the same, if the parser has not failed, which sees the whole input
pub record IsTied (s : State) (slots : List Slot) : Type 0 where
  pub holds : HasNotFailed s → Holds s.draft.items slots
  pub limit : s.limit ≡ length s.input

-- ---- a parser and a run

-- the run's marker is that of the slot
abbrev pub IsMarkerOf : Slot → Node → Type 0
IsMarkerOf (Open m) marker = marker.id ≡ m.id
IsMarkerOf (Done n) marker = marker ≡ n
IsMarkerOf Spent marker = ⊤

-- a parser and its slots are in the state of a run
pub record IsAt (s : State) (slots : List Slot) (run : Run) : Type 0 where
  pub draft : run.draft ≡ s.draft
  pub position : run.position ≡ s.position
  pub count : length run.markers ≡ length slots
  pub markers : (i : ℕ) → IsMarkerOf (slot_at slots i) (marker_at run i)

-- If a parser fails as it is to record these events, and not for want of memory, then its limits refuse one of these, behind the events
-- that it has recorded, for that reason.
abbrev pub FailsAt : State → State → List Bool → Type 0
FailsAt old new made =
    (before : List Bool) → length before ≡ old.draft.recorded → errors_among before ≡ errors_of old.draft.items
    → (reason : ParseError) → new.first_reason ≡ Some reason → reason ≢ OutOfMemory → refusal old.max_events old.max_errors (before ++ made) ≡ Some reason

-- a call was made
pub record Performs (old new : State) (slots slots' : List Slot) (call : Call) : Type 0 where
  pub tied : IsTied new slots'
  pub statuses : statuses_of slots' ≡ advanced (statuses_of slots) call
  pub step : HasNotFailed new → (run : Run) → IsAt old slots run → IsAt new slots' (stepped old.words old.input run call)
  pub fails : HasNotFailed old → (run : Run) → IsAt old slots run → FailsAt old new (events_made old.words (seen old.input run) call)
