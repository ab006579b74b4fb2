-- The chain of links from an index of a log: the kinds that it finds, and the log that it leaves.
use Rattle.std.specs.Prelude.{◌≡◌, ℕ, zero, suc, ◌+◌, true, Option, Some, None, List, [], ◌∷◌, ◌++◌}
use Rattle.squawk_kinds.specs.Kinds.{TOMBSTONE}
use Rattle.squawk_output.specs.Steps.{Step}
use Rattle.squawk_output.specs.EventLog.{Log, linked_index, entering, is_start_at}
use Rattle.squawk_output.specs.declared.event.Event.{Event}
use Rattle.squawk_output.specs.declared.event.Event.TheVariants.{Start}

-- what an event that was taken out leaves behind
abbrev pub tombstone : Event
tombstone = Start TOMBSTONE None

-- the index to which a link at this index leads
abbrev pub hop : ℕ → Option ℕ → Option ℕ
hop index None = None
hop index (Some distance) = Some (index + distance)

-- the event at the index is a Start, if there is an index
abbrev pub LandsAt : Log → Option ℕ → Type 0
LandsAt log None = Unit {0}
LandsAt log (Some index) = is_start_at log index ≡ true

-- the kind of the node that an event begins; TOMBSTONE if it begins none
abbrev pub node_kind : Event → ℕ
node_kind (Start kind link) = kind
node_kind event = TOMBSTONE

-- the link of an event, if it has one
abbrev pub forward_parent : Event → Option ℕ
forward_parent (Start kind link) = link
forward_parent event = None

-- the kinds of the events along the chain from an index
abbrev pub chain : Option ℕ → Log → List ℕ
chain index [] = []
chain None (event ∷ log) = []
chain (Some zero) (event ∷ log) = node_kind event ∷ chain (linked_index event) log
chain (Some (suc n)) (event ∷ log) = chain (Some n) log

-- the log with those events taken out
abbrev pub erased : Option ℕ → Log → Log
erased index [] = []
erased None (event ∷ log) = event ∷ log
erased (Some zero) (event ∷ log) = tombstone ∷ erased (linked_index event) log
erased (Some (suc n)) (event ∷ log) = event ∷ erased (Some n) log

-- the steps that enter these kinds, from the last to the first
abbrev pub entered_back : List ℕ → List Step
entered_back [] = []
entered_back (kind ∷ kinds) = entered_back kinds ++ entering kind
