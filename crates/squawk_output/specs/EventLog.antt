-- An event log, and the steps that it stands for.
use Rattle.std.specs.Prelude.{◌≡◌, ℕ, zero, suc, ◌+◌, ◌-◌, ◌*◌, ◌<◌, ◌==◌, Bool, true, false, if◌then◌else◌, Option, Some, None, List, [], ◌∷◌, length, count_by, filter, reverse}
use Rattle.std.specs.List.{enumerate_from, flat_map, position_or_len, range_with_len}
use Rattle.squawk_kinds.specs.Kinds.{TOMBSTONE}
use Rattle.squawk_output.specs.Steps as steps
use Rattle.squawk_output.specs.declared.event.Event.{Event}
use Rattle.squawk_output.specs.declared.event.Event.TheVariants.{Start, Finish, Token, Error}

abbrev pub Log : Type 0
Log = List Event

-- ---- links

-- where the link of an event leads, counted from the event behind it
abbrev pub linked_index : Event → Option ℕ
linked_index (Start kind (Some distance)) = Some (distance - 1)
linked_index event = None

-- whether the index to which a link leads passes a test; false if there is no link
abbrev pub leads : Option ℕ → (ℕ → Bool) → Bool
leads None p = false
leads (Some index) p = p index

-- whether links lead from the one index of a log to the other, or both are the same
abbrev pub reaches : Log → ℕ → ℕ → Bool
reaches [] i j = false
reaches (event ∷ log) zero zero = true
reaches (event ∷ log) zero (suc j) = leads (linked_index event) (λ index. reaches log index j)
reaches (event ∷ log) (suc i) zero = false
reaches (event ∷ log) (suc i) (suc j) = reaches log i j

-- the indices of a log, in order
abbrev pub indices : Log → List ℕ
indices log = range_with_len 0 (length log)

-- the owner of an index: the first index from which links lead there, which may be that index itself
abbrev pub owner : Log → ℕ → ℕ
owner log j = position_or_len (λ i. reaches log i j) (indices log)

-- ---- the list of a log

-- the events that an index owns, each with its index, the farthest along the links first
abbrev pub owned : Log → ℕ → List (ℕ × Event)
owned log i = reverse (filter (λ (index, event). owner log index == i) (enumerate_from 0 log))

-- in order, for each index, the events that it owns
abbrev pub in_list_order : Log → List (ℕ × Event)
in_list_order log = flat_map (owned log) (indices log)

-- a node of a kind is entered; TOMBSTONE is no node's kind
abbrev pub entering : ℕ → List steps.Step
entering kind = if kind == TOMBSTONE then [] else steps.Enter kind ∷ []

-- the steps of an event
abbrev pub steps_of_event : Event → List steps.Step
steps_of_event (Start kind link) = entering kind
steps_of_event Finish = steps.Exit ∷ []
steps_of_event (Token kind n) = steps.Token kind n ∷ []
steps_of_event (Error text) = steps.Error text ∷ []

-- The list of a log: in order, for each index, the steps of the events that it owns, the farthest along the links
-- first.
abbrev pub list_of : Log → List steps.Step
list_of log = flat_map (λ (index, event). steps_of_event event) (in_list_order log)

-- ---- the turns of a log

abbrev pub is_start : Event → Bool
is_start (Start kind link) = true
is_start event = false

abbrev pub has_link : Event → Bool
has_link (Start kind (Some distance)) = true
has_link event = false

-- one turn for each event, one for each Start, and two for each link
abbrev pub turns_of : Log → ℕ
turns_of log = length log + count_by is_start log + 2 * count_by has_link log

-- ---- the errors of a log

abbrev pub is_error_event : Event → Bool
is_error_event (Error text) = true
is_error_event event = false

-- how many of its events are errors
abbrev pub errors_logged : Log → ℕ
errors_logged log = count_by is_error_event log

-- ---- logs whose links lead to later Starts

abbrev pub is_start_at : Log → ℕ → Bool
is_start_at [] index = false
is_start_at (event ∷ log) zero = is_start event
is_start_at (event ∷ log) (suc index) = is_start_at log index

-- an event's link, if it has one, leads to a Start of the events behind it
abbrev pub Lands : Event → Log → Type 0
Lands (Start kind None) behind = Unit {0}
Lands (Start kind (Some distance)) behind = (0 < distance) × (is_start_at behind (distance - 1) ≡ true)
Lands Finish behind = Unit {0}
Lands (Token kind n) behind = Unit {0}
Lands (Error text) behind = Unit {0}

-- every link leads to a later Start
abbrev pub LinksLead : Log → Type 0
LinksLead [] = Unit {0}
LinksLead (event ∷ log) = Lands event log × LinksLead log
