-- What the acts of a parser make of its draft. Each edit is one recorded event, but for those of a marker that is
-- abandoned or that a node is extended to, and changes nothing else.
use Rattle.std.specs.Prelude.{ℕ, ◌==◌, ◌+◌, ◌-◌, ◌*◌, ◌&&◌, Bool, true, false, List, [], ◌∷◌, ◌++◌, count_by, if◌then◌else◌}
use Rattle.std.specs.List.{flat_map}
use Rattle.squawk_output.specs.Draft.{Draft, Item, OpenMarker, Open, Close, Token, Error, Node}
use Rattle.squawk_output.specs.declared.log.Made.TheVariants.{ByStart, ByPrecede}

-- whether an item is the open marker with this id
abbrev pub is_open_marker_of : ℕ → Item → Bool
is_open_marker_of id (OpenMarker i made) = i == id
is_open_marker_of id item = false

-- whether an item is the opening of a node
abbrev pub is_opening_of : ℕ → Item → Bool
is_opening_of id (Open i kind free) = i == id
is_opening_of id item = false

-- the items that pass a test are replaced by these
abbrev pub replaced : (Item → Bool) → (Item → List Item) → List Item → List Item
replaced p f items = flat_map (λ item. if p item then f item else item ∷ []) items

-- an item at the end is one more event and one more entry, which takes so many turns
abbrev pub pushed : Draft → Item → ℕ → Draft
pushed d item turns = record { items = d.items ++ item ∷ []; recorded = d.recorded + 1; entries = d.entries + 1; turns_due = d.turns_due + turns }

-- an open marker at the end; its id is the number of entries
abbrev pub started : Draft → Draft
started d = pushed d (OpenMarker d.entries ByStart) 2

-- the open marker becomes a free opening, at the same position
abbrev pub filled : List Item → ℕ → ℕ → List Item
filled items id kind = replaced (is_open_marker_of id) (λ item. Open id kind true ∷ []) items

-- and a closing stands at the end
abbrev pub completed : Draft → ℕ → ℕ → Draft
completed d id kind = pushed (record d { items = filled d.items id kind }) Close 1

-- a token at the end
abbrev pub with_token : Draft → ℕ → ℕ → Draft
with_token d kind n = pushed d (Token kind n) 1

-- an error at the end
abbrev pub with_error : Draft → List ℕ → Draft
with_error d text = pushed d (Error text) 1

-- an opening that can't be preceded again
abbrev pub preceded_item : Item → Item
preceded_item (Open i kind free) = Open i kind false
preceded_item item = item

-- an open marker directly before the opening of a node, which can't be preceded again; its id is the number of entries
abbrev pub preceded : Draft → ℕ → Draft
preceded d node = record {
  items = replaced (is_opening_of node) (λ item. OpenMarker d.entries ByPrecede ∷ preceded_item item ∷ []) d.items;
  recorded = d.recorded + 1;
  entries = d.entries + 1;
  turns_due = d.turns_due + 4;
}

-- the item of a marker goes
abbrev pub without_open_marker : ℕ → List Item → List Item
without_open_marker id items = replaced (is_open_marker_of id) (λ item. []) items

-- whether an open marker was made by a start and is the last of so many entries
abbrev pub is_last_start : ℕ → Item → Bool
is_last_start entries (OpenMarker i ByStart) = i + 1 == entries
is_last_start entries item = false

-- whether an item is a marker's item and such a one, so that its entry goes with it
abbrev pub takes_entry : ℕ → ℕ → Item → Bool
takes_entry id entries item = is_open_marker_of id item && is_last_start entries item

-- how many entries go with a marker's item: one or none
abbrev pub entries_gone : Draft → ℕ → ℕ
entries_gone d id = count_by (takes_entry id d.entries) d.items

-- A marker is abandoned: its open marker goes. No recorded event goes; an entry that goes takes its two turns away.
abbrev pub abandoned : Draft → ℕ → Draft
abandoned d id = record {
  items = without_open_marker id d.items;
  recorded = d.recorded;
  entries = d.entries - entries_gone d id;
  turns_due = d.turns_due - 2 * entries_gone d id;
}

-- whether an item that passes the first test stands before all that pass the second
abbrev pub stands_before : (Item → Bool) → (Item → Bool) → List Item → Bool
stands_before p q [] = false
stands_before p q (item ∷ items) = if p item then true else if q item then false else stands_before p q items

-- the opening of a node moves to the open marker's position
abbrev pub moved : Node → ℕ → List Item → List Item
moved node id items =
    replaced (is_open_marker_of id) (λ item. Open node.id node.kind true ∷ []) (replaced (is_opening_of node.id) (λ item. []) items)

-- the opening moves to the open marker's position if that stands before it, and the open marker goes
abbrev pub extended_items : Node → ℕ → List Item → List Item
extended_items node id items =
    if stands_before (is_open_marker_of id) (is_opening_of node.id) items then moved node id items else without_open_marker id items

-- A node is extended to a marker. No recorded event and no entry goes; a link is made, which takes two turns.
abbrev pub extended : Draft → Node → ℕ → Draft
extended d node id = record d { items = extended_items node id d.items; turns_due = d.turns_due + 2 }
