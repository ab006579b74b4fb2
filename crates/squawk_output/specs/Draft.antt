-- The draft of a parse: what it has recorded, as a list that its calls edit.
use Rattle.std.specs.Prelude.{◌≡◌, ℕ, ◌*◌, ◌<◌, ◌≤◌, ◌==◌, Bool, true, false, List, [], ◌∷◌, All, count_by, filter, length}
use Rattle.std.specs.List.{flat_map}
use Rattle.squawk_output.specs.Steps as steps
use Rattle.squawk_output.specs.declared.log.Made.{Made}

pub data Item : Type 0 where
  -- an open marker: its id, which is the number of entries when it was made, and how it was made
  OpenMarker : ℕ → Made → Item
  -- the beginning of a node: its id, its kind, and whether it can still be preceded
  Open : ℕ → ℕ → Bool → Item
  -- the end of a node
  Close : Item
  -- a token of a kind, and how many input tokens it has
  Token : ℕ → ℕ → Item
  -- an error with its text
  Error : List ℕ → Item

-- The items in their order, and three counts: the recorded events; the entries that a log of them has, from which an
-- abandoned marker's may be taken out again; and the turns that a pass over those entries takes.
pub record Draft : Type 0 where
  pub items : List Item
  pub recorded : ℕ
  pub entries : ℕ
  pub turns_due : ℕ

-- the draft of a parse that begins
abbrev pub nothing : Draft
nothing = record { items = []; recorded = 0; entries = 0; turns_due = 0 }

-- a marker: the id of its open marker, and how it was made
pub record Mark : Type 0 where
  pub id : ℕ
  pub made : Made

-- a completed marker: the id of its opening, and the kind that it was given
pub record Node : Type 0 where
  pub id : ℕ
  pub kind : ℕ

abbrev pub is_open_marker : Item → Bool
is_open_marker (OpenMarker i made) = true
is_open_marker item = false

abbrev pub is_error_item : Item → Bool
is_error_item (Error text) = true
is_error_item item = false

-- no open marker is left
abbrev pub HasNoOpenMarker : List Item → Type 0
HasNoOpenMarker items = All (λ item. is_open_marker item ≡ false) items

-- the open markers, in the order of the items
abbrev pub open_markers_of : List Item → List Item
open_markers_of items = filter is_open_marker items

-- how many errors were recorded
abbrev pub errors_of : List Item → ℕ
errors_of items = count_by is_error_item items

-- the ids that an item has
abbrev pub ids_of : Item → List ℕ
ids_of (OpenMarker i made) = i ∷ []
ids_of (Open i kind free) = i ∷ []
ids_of item = []

-- the ids of open markers and openings, in the order of the items
abbrev pub ids : List Item → List ℕ
ids items = flat_map ids_of items

-- no id occurs twice
abbrev pub HasNoIdTwice : List Item → Type 0
HasNoIdTwice items = (id : ℕ) → count_by (λ i. i == id) (ids items) ≤ 1

-- every id of the items is below this one
abbrev pub IsAboveIds : ℕ → List Item → Type 0
IsAboveIds id items = All (λ i. i < id) (ids items)

-- What the draft of every log keeps: an item a recorded event at most, and four turns; every id is below the number of
-- entries, so a new one is above all, and none occurs twice.
pub record IsLogged (d : Draft) : Type 0 where
  pub few : length d.items ≤ d.recorded
  pub turns : d.turns_due ≤ 4 * d.recorded
  pub below : IsAboveIds d.entries d.items
  pub once : HasNoIdTwice d.items

-- the steps that an output has for an item
abbrev pub steps_of_item : Item → List steps.Step
steps_of_item (OpenMarker i made) = []
steps_of_item (Open i kind free) = steps.Enter kind ∷ []
steps_of_item Close = steps.Exit ∷ []
steps_of_item (Token kind n) = steps.Token kind n ∷ []
steps_of_item (Error text) = steps.Error text ∷ []

-- the plain list: the items without the open markers, the ids, and whether a node can be preceded
abbrev pub plain : List Item → List steps.Step
plain items = flat_map steps_of_item items
