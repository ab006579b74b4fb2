-- What the slots of other ids have where the items of one id are edited.
use Rattle.std.proofs.Common.{◌≡◌, ◌≢◌, inl, inr, ℕ, ◌<◌, true, List, [], ◌++◌, arith, refl, Contains}
use Rattle.std.proofs.lemmas.Bool.{cases_order, eq-eqb, ne_eqb}
use Rattle.std.proofs.lemmas.List.Elements.{Contains-append_left, Contains-push}
use Rattle.squawk_output.specs.Draft as draft
use Rattle.squawk_output.specs.Draft.{Item, Mark, Node, IsAboveIds}
use Rattle.squawk_output.specs.Edits.{is_open_marker_of, is_opening_of, replaced}
use Rattle.squawk_parser.proofs.Markers.{Contains-others}
use Rattle.squawk_script.specs.Slots.{IsHeld, AreInOrder, slot_at}
use Rattle.squawk_script.specs.declared.slot.Slot.{Slot}
use Rattle.squawk_script.specs.declared.slot.Slot.TheVariants.{Open, Done, Spent}
use Rattle.squawk_script.proofs.EditedItems.{edited-cases, id-below}

-- ---- the slots

-- the slot has this id
abbrev HasId : ℕ → Slot → Type 0
HasId id (Open m) = m.id ≡ id
HasId id (Done n) = n.id ≡ id
HasId id Spent = ⊥

-- two slots in order have not both this id
never-both : (id : ℕ) (one other : Slot) → AreInOrder one other → HasId id one → HasId id other → ⊥
never-both id Spent other lt first second = first
never-both id one Spent lt first second = second
never-both id one other lt first second = omega (arith, lt, first, second)

-- the other slots have other ids
pub others : (slots : List Slot) (k id : ℕ) → HasId id (slot_at slots k) → ((i j : ℕ) → i < j → AreInOrder (slot_at slots i) (slot_at slots j))
    → (i : ℕ) → i ≢ k → HasId id (slot_at slots i) → ⊥
others slots k id has order i other same = elim (cases_order i k) [
  | inl at ↦ other at
  | inr (inl lt) ↦ never-both id (slot_at slots i) (slot_at slots k) (order i k lt) same has
  | inr (inr gt) ↦ never-both id (slot_at slots k) (slot_at slots i) (order k i gt) has same
]

-- a marker is what its two fields are
pub same-mark : (m o : Mark) → m.id ≡ o.id → m.made ≡ o.made → Open m ≡ Open o
same-mark m o id made =
    let whole : Open (record { id = m.id; made = m.made }) ≡ Open (record { id = o.id; made = o.made }) = rw (id, made) refl in whole

-- ---- what edited items have

pub held-append : (items made : List Item) (slot : Slot) → IsHeld items slot → IsHeld (items ++ made) slot
held-append items made (Open m) there = Contains-append_left items made (draft.OpenMarker m.id m.made) there
held-append items made (Done n) there = Contains-append_left items made (draft.Open n.id n.kind true) there
held-append items made Spent there = tt

-- what has another id than the edited open marker
pub held-open_markers : (id : ℕ) (f : Item → List Item) (items : List Item) (slot : Slot) → (HasId id slot → ⊥) → IsHeld items slot
    → IsHeld (replaced (is_open_marker_of id) f items) slot
held-open_markers id f items (Open m) other there = Contains-others (is_open_marker_of id) f (draft.OpenMarker m.id m.made) items (ne_eqb m.id id other) there
held-open_markers id f items (Done n) other there = Contains-others (is_open_marker_of id) f (draft.Open n.id n.kind true) items refl there
held-open_markers id f items Spent other there = tt

-- or than the edited opening
pub held-openings : (id : ℕ) (f : Item → List Item) (items : List Item) (slot : Slot) → (HasId id slot → ⊥) → IsHeld items slot
    → IsHeld (replaced (is_opening_of id) f items) slot
held-openings id f items (Open m) other there = Contains-others (is_opening_of id) f (draft.OpenMarker m.id m.made) items refl there
held-openings id f items (Done n) other there = Contains-others (is_opening_of id) f (draft.Open n.id n.kind true) items (ne_eqb n.id id other) there
held-openings id f items Spent other there = tt

-- a new id is behind all slots
pub before-new : (items : List Item) (m : Mark) (slot : Slot) → IsAboveIds m.id items → IsHeld items slot → AreInOrder slot (Open m)
before-new items m (Open o) above there = id-below m.id o.id (draft.OpenMarker o.id o.made) items above there (Contains-push [] o.id)
before-new items m (Done n) above there = id-below m.id n.id (draft.Open n.id n.kind true) items above there (Contains-push [] n.id)
before-new items m Spent above there = tt

pub before-spent : (slot : Slot) → AreInOrder slot Spent
before-spent Spent = tt
before-spent slot = tt

-- an open marker that was edited away isn't one of those that are left
pub open_marker-stayed : (id : ℕ) (f : Item → List Item) (items : List Item) (o : Mark) → ((item : Item) → Contains (f item) (draft.OpenMarker o.id o.made) → ⊥)
    → Contains (replaced (is_open_marker_of id) f items) (draft.OpenMarker o.id o.made) → (o.id ≢ id) × Contains items (draft.OpenMarker o.id o.made)
open_marker-stayed id f items o never there = elim (edited-cases (is_open_marker_of id) f items (draft.OpenMarker o.id o.made) there) [
  | inl made ↦ absurd (never made.old made.gives)
  | inr stayed ↦ ((λ e. absurd (cc (eq-eqb o.id id e, stayed.0))), stayed.1)
]
