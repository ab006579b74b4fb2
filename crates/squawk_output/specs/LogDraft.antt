-- The draft that a log of events and their marks stand for. An id is the index of an event.
use Rattle.std.specs.Prelude.{ℕ, ◌==◌, Bool, true, false, not, List, [], ◌∷◌, length, slice_index_or, Contains, if◌then◌else◌}
use Rattle.std.specs.List.{flat_map}
use Rattle.squawk_kinds.specs.Kinds.{TOMBSTONE}
use Rattle.squawk_output.specs.Draft as draft
use Rattle.squawk_output.specs.Draft.{Draft, Item}
use Rattle.squawk_output.specs.EventLog.{Log, has_link, in_list_order, owner, turns_of}
use Rattle.squawk_output.specs.declared.event.Event.{Event}
use Rattle.squawk_output.specs.declared.event.Event.TheVariants.{Start, Finish, Token, Error}
use Rattle.squawk_output.specs.declared.log.Made.{Made}
use Rattle.squawk_output.specs.declared.log.Made.TheVariants.{ByStart, ByPrecede}

-- The items of the event at an index. A Start with its mark set is an open marker, and without it a node's opening, which is
-- free where no link goes out; TOMBSTONE is no node's kind.
abbrev pub items_of : ℕ → Made → Event → Bool → List Item
items_of index made (Start kind link) true = draft.OpenMarker index made ∷ []
items_of index made (Start kind link) false = if kind == TOMBSTONE then [] else draft.Open index kind (not (has_link (Start kind link))) ∷ []
items_of index made Finish mark = draft.Close ∷ []
items_of index made (Token kind n) mark = draft.Token kind n ∷ []
items_of index made (Error text) mark = draft.Error text ∷ []

-- what a link leads to was made by a precede
abbrev pub made_at : Log → ℕ → Made
made_at log index = if owner log index == index then ByStart else ByPrecede

-- the items of an event with its index
abbrev pub items_at : Log → List Bool → ℕ × Event → List Item
items_at log marks (index, event) = items_of index (made_at log index) event (slice_index_or marks index false)

-- the items stand where the steps of their events stand in the list of the log
abbrev pub draft_items : Log → List Bool → List Item
draft_items log marks = flat_map (items_at log marks) (in_list_order log)

abbrev pub draft_of : Log → List Bool → ℕ → Draft
draft_of log marks recorded = record { items = draft_items log marks; recorded = recorded; entries = length log; turns_due = turns_of log }

-- a node that hasn't been preceded, with this id, is among the items
abbrev pub HasNodeOf : List Item → ℕ → Type 0
HasNodeOf items id = (kind : ℕ) × Contains items (draft.Open id kind true)

-- an open marker with this id is among the items
abbrev pub HasOpenMarkerOf : List Item → ℕ → Type 0
HasOpenMarkerOf items id = (made : Made) × Contains items (draft.OpenMarker id made)
