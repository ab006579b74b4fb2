-- The slots of a run are what the draft has, after each edit of it.
use Rattle.std.proofs.Common.{◌≡◌, ◌≢◌, inl, inr, ℕ, ◌<◌, true, false, List, [], ◌∷◌, ◌++◌, length, arith, refl, subst, Contains, slice_set}
use Rattle.std.proofs.lemmas.Bool.{cases_eq, cond_both}
use Rattle.std.proofs.lemmas.List.Elements.{All-contains, Contains-append_left, Contains-append_cases, Contains-push, Contains-push_cases}
use Rattle.squawk_output.specs.Draft as draft
use Rattle.squawk_output.specs.Draft.{Item, Mark, Node, HasNoOpenMarker, IsAboveIds, is_open_marker}
use Rattle.squawk_output.specs.declared.log.Made.TheVariants.{ByPrecede, ByStart}
use Rattle.squawk_parser.specs.Recorded.{preceding_mark, started_mark}
use Rattle.squawk_parser.specs.State.{State}
use Rattle.squawk_output.specs.Edits.{extended_items, filled, is_open_marker_of, is_opening_of, moved, preceded, preceded_item, replaced, stands_before, without_open_marker}
use Rattle.squawk_parser.proofs.Markers.{Contains-others}
use Rattle.squawk_output.proofs.Groups.{itself}
use Rattle.squawk_script.specs.Slots.{Holds, IsHeld, AreInOrder, slot_at}
use Rattle.squawk_script.specs.declared.slot.Slot.{Slot}
use Rattle.squawk_script.specs.declared.slot.Slot.TheVariants.{Open, Done, Spent}
use Rattle.squawk_output.proofs.LogItems.{Contains-only}
use Rattle.squawk_script.proofs.EditedItems.{Contains-made, edited-cases}
use Rattle.squawk_script.proofs.OtherSlots.{before-new, before-spent, held-append, held-open_markers, held-openings, open_marker-stayed, others, same-mark}
use Rattle.squawk_script.proofs.SlotLists.{Contains-set, each-push, each-set, pairs-push, pairs-set, within}

-- ---- an open marker's slot is spent

-- no open marker is left of the marker in slot k, and the other slots are what the new items have
module _ (items new : List Item) (slots : List Slot) (k : ℕ) (m : Mark) (made : Slot) where
  holds-edited : slot_at slots k ≡ Open m → Holds items slots → ((i : ℕ) → i ≢ k → IsHeld new (slot_at slots i)) → IsHeld new made
      → ((slot : Slot) → AreInOrder slot (Open m) → AreInOrder slot made) → ((slot : Slot) → AreInOrder (Open m) slot → AreInOrder made slot)
      → ((o : Mark) → Contains new (draft.OpenMarker o.id o.made) → (o.id ≢ m.id) × Contains items (draft.OpenMarker o.id o.made))
      → Holds new (slice_set slots k made)
  holds-edited at holds rest here before behind left = record {
    each = each-set Spent (λ i. IsHeld new) slots k made (within Spent slots k (λ e. cc)) rest here;
    order = pairs-set Spent AreInOrder slots k made holds.order (λ slot. rw at (before slot)) (λ slot. rw at (behind slot));
    covers = λ o there.
        let stayed = left o there in
        Contains-set Spent (Open o) slots k made (λ is. stayed.0 (cc)) (holds.covers o stayed.1);
  }

-- a node's opening stands where a marker's item stood
opening-filled : (items : List Item) (m : Mark) (id kind : ℕ) → Contains items (draft.OpenMarker m.id m.made)
    → Contains (replaced (is_open_marker_of m.id) (λ item. draft.Open id kind true ∷ []) items) (draft.Open id kind true)
opening-filled items m id kind there =
    let opening = draft.Open id kind true in
    Contains-made (is_open_marker_of m.id) (λ item. opening ∷ []) (draft.OpenMarker m.id m.made) opening items (itself m.id) there (Contains-push [] opening)

-- an opening is no open marker
no-open_marker : (o : Mark) (id kind : ℕ) → Contains (draft.Open id kind true ∷ []) (draft.OpenMarker o.id o.made) → ⊥
no-open_marker o id kind there = let same = Contains-only (draft.OpenMarker o.id o.made) (draft.Open id kind true) there in cc

-- nor is one that was preceded
no-open_marker-preceded : (id : ℕ) (item : Item) (o : Mark) → is_opening_of id item ≡ true → preceded_item item ≡ draft.OpenMarker o.id o.made → ⊥
no-open_marker-preceded id (draft.OpenMarker i made) o passes same = cc
no-open_marker-preceded id item o passes same = cc

-- ---- the edits

-- before the first call
pub holds-begin : Holds [] []
holds-begin = record { each = λ i. tt; order = λ i j lt. tt; covers = λ m there. absurd (omega (arith, there.1)) }

-- items without an open marker at the end
pub holds-put : (items made : List Item) (slots : List Slot) → HasNoOpenMarker made → Holds items slots → Holds (items ++ made) slots
holds-put items made slots closed holds = record {
  each = λ i. held-append items made (slot_at slots i) (holds.each i);
  order = holds.order;
  covers = λ m there. elim (Contains-append_cases items made (draft.OpenMarker m.id m.made) there) [
    | inl before ↦ holds.covers m before
    | inr behind ↦ absurd (let never : true ≡ false = All-contains (λ item. is_open_marker item ≡ false) made (draft.OpenMarker m.id m.made) closed behind in cc)
  ];
}

-- a marker is started
pub holds-started : (s : State) (slots : List Slot) (m : Mark) → m ≡ started_mark s → IsAboveIds s.draft.entries s.draft.items → Holds s.draft.items slots
    → Holds (s.draft.items ++ draft.OpenMarker s.draft.entries ByStart ∷ []) (slots ++ Open m ∷ [])
holds-started s slots m is above holds =
    let items : List Item = s.draft.items in
    let open_marker : Item = draft.OpenMarker s.draft.entries ByStart in
    let new : Slot = Open (started_mark s) in
    rw is record {
      each = each-push Spent (λ i. IsHeld (items ++ open_marker ∷ [])) slots new
          (λ i off. held-append items (open_marker ∷ []) (slot_at slots i) (holds.each i)) (Contains-push items open_marker);
      order = pairs-push Spent AreInOrder slots new holds.order (λ i. before-new items (started_mark s) (slot_at slots i) above (holds.each i)) before-spent;
      covers = λ o there. elim (Contains-push_cases items open_marker (draft.OpenMarker o.id o.made) there) [
        | inl before ↦ Contains-append_left slots (new ∷ []) (Open o) (holds.covers o before)
        | inr same ↦ subst (Contains (slots ++ new ∷ [])) (same-mark (started_mark s) o (cc) (cc)) (Contains-push slots new)
      ];
    }

-- completed
pub holds-completed : (items : List Item) (slots : List Slot) (k kind : ℕ) (m : Mark) → slot_at slots k ≡ Open m → Holds items slots
    → Holds (filled items m.id kind ++ draft.Close ∷ []) (slice_set slots k (Done (record { id = m.id; kind = kind })))
holds-completed items slots k kind m at holds =
    let f : Item → List Item = λ item. draft.Open m.id kind true ∷ [] in
    holds-edited items (filled items m.id kind ++ draft.Close ∷ []) slots k m node at holds
    (λ i other. held-append (filled items m.id kind) (draft.Close ∷ []) (slot_at slots i)
    (held-open_markers m.id f items (slot_at slots i) (others slots k m.id (rw at refl) holds.order i other) (holds.each i)))
    (held-append (filled items m.id kind) (draft.Close ∷ []) node (opening-filled items m m.id kind (subst (IsHeld items) at (holds.each k))))
    before-done (λ slot lt. lt)
    (λ o there. elim (Contains-push_cases (filled items m.id kind) draft.Close (draft.OpenMarker o.id o.made) there) [
      | inl before ↦ open_marker-stayed m.id f items o (λ item. no-open_marker o m.id kind) before
      | inr same ↦ absurd (cc)
    ])
  where
    node : Slot
    node = Done (record { id = m.id; kind = kind })

    before-done : (slot : Slot) → AreInOrder slot (Open m) → AreInOrder slot node
    before-done Spent lt = lt
    before-done slot lt = lt

-- abandoned
pub holds-abandoned : (items : List Item) (slots : List Slot) (k : ℕ) (m : Mark) → slot_at slots k ≡ Open m → Holds items slots
    → Holds (without_open_marker m.id items) (slice_set slots k Spent)
holds-abandoned items slots k m at holds =
    holds-edited items (without_open_marker m.id items) slots k m Spent at holds
    (λ i other. held-open_markers m.id (λ item. []) items (slot_at slots i) (others slots k m.id (rw at refl) holds.order i other) (holds.each i))
    tt (λ slot lt. before-spent slot) (λ slot lt. tt)
    (λ o there. open_marker-stayed m.id (λ item. []) items o (λ item has. absurd (omega (arith, has.1))) there)

-- a node is preceded
pub holds-preceded : (s : State) (slots : List Slot) (k : ℕ) (n : Node) (m : Mark) → slot_at slots k ≡ Done n → m ≡ preceding_mark s
    → IsAboveIds s.draft.entries s.draft.items → Holds s.draft.items slots → Holds (preceded s.draft n.id).items (slice_set slots k Spent ++ Open m ∷ [])
holds-preceded s slots k n m at is above holds =
    let items : List Item = s.draft.items in
    let open_marker : Item = draft.OpenMarker s.draft.entries ByPrecede in
    let f : Item → List Item = λ item. open_marker ∷ preceded_item item ∷ [] in
    let edited : List Item = replaced (is_opening_of n.id) f items in
    let lt : k < length slots = within Spent slots k (λ e. cc) in
    let new : Slot = Open (preceding_mark s) in
    rw is record {
      each =
          each-push Spent (λ i. IsHeld edited) (slice_set slots k Spent) new
          (λ i off. each-set Spent (λ i. IsHeld edited) slots k Spent lt
          (λ i other. held-openings n.id f items (slot_at slots i) (others slots k n.id (rw at refl) holds.order i other) (holds.each i)) tt i)
          (Contains-made (is_opening_of n.id) f (draft.Open n.id n.kind true) open_marker items (itself n.id) (subst (IsHeld items) at (holds.each k)) (0, omega arith, refl));
      order =
          pairs-push Spent AreInOrder (slice_set slots k Spent) new
          (pairs-set Spent AreInOrder slots k Spent holds.order (λ slot lt. before-spent slot) (λ slot lt. tt))
          (each-set Spent (λ i slot. AreInOrder slot new) slots k Spent lt (λ i other. before-new items (preceding_mark s) (slot_at slots i) above (holds.each i)) tt)
          before-spent;
      covers = λ o there. elim (edited-cases (is_opening_of n.id) f items (draft.OpenMarker o.id o.made) there) [
        | inl from ↦ elim (Contains-append_cases (open_marker ∷ []) (preceded_item from.old ∷ []) (draft.OpenMarker o.id o.made) from.gives) [
          | inl here ↦
              let same = Contains-only (draft.OpenMarker o.id o.made) open_marker here in
              subst (Contains (slice_set slots k Spent ++ new ∷ [])) (same-mark (preceding_mark s) o (cc) (cc)) (Contains-push (slice_set slots k Spent) new)
          | inr opening ↦ absurd (no-open_marker-preceded n.id from.old o from.passes (Contains-only (draft.OpenMarker o.id o.made) (preceded_item from.old) opening))
        ]
        | inr stayed ↦
            Contains-append_left (slice_set slots k Spent) (new ∷ []) (Open o)
            (Contains-set Spent (Open o) slots k Spent (λ is. cc) (holds.covers o stayed.1))
      ];
    }

-- the opening of a node takes the place of an open marker
holds-moved : (items : List Item) (slots : List Slot) (j k : ℕ) (n : Node) (m : Mark) → slot_at slots j ≡ Done n → slot_at slots k ≡ Open m
    → Holds items slots → Holds (moved n m.id items) (slice_set slots k Spent)
holds-moved items slots j k n m at_node at holds =
    holds-edited items (moved n m.id items) slots k m Spent at holds rest tt (λ slot lt. before-spent slot) (λ slot lt. tt) left
  where
    opening : Item
    opening = draft.Open n.id n.kind true

    without : List Item
    without = replaced (is_opening_of n.id) (λ item. []) items

    open_marker : Contains without (draft.OpenMarker m.id m.made)
    open_marker = Contains-others (is_opening_of n.id) (λ item. []) (draft.OpenMarker m.id m.made) items refl (subst (IsHeld items) at (holds.each k))

    rest : (i : ℕ) → i ≢ k → IsHeld (moved n m.id items) (slot_at slots i)
    rest i other = elim (cases_eq i j) [
      | inl same ↦ rw (same, at_node) (opening-filled without m n.id n.kind open_marker)
      | inr differs ↦
          held-open_markers m.id (λ item. opening ∷ []) without (slot_at slots i) (others slots k m.id (rw at refl) holds.order i other)
          (held-openings n.id (λ item. []) items (slot_at slots i) (others slots j n.id (rw at_node refl) holds.order i differs) (holds.each i))
    ]

    left : (o : Mark) → Contains (moved n m.id items) (draft.OpenMarker o.id o.made) → (o.id ≢ m.id) × Contains items (draft.OpenMarker o.id o.made)
    left o there =
        let stayed = open_marker-stayed m.id (λ item. opening ∷ []) without o (λ item. no-open_marker o n.id n.kind) there in (
          stayed.0,
          elim (edited-cases (is_opening_of n.id) (λ item. []) items (draft.OpenMarker o.id o.made) stayed.1) [
            | inl from ↦ absurd (omega (arith, from.gives.1))
            | inr before ↦ before.1
          ],
        )

-- a node is extended to a marker
pub holds-extended : (items : List Item) (slots : List Slot) (j k : ℕ) (n : Node) (m : Mark) → slot_at slots j ≡ Done n → slot_at slots k ≡ Open m
    → Holds items slots → Holds (extended_items n m.id items) (slice_set slots k Spent)
holds-extended items slots j k n m at_node at holds =
    cond_both (stands_before (is_open_marker_of m.id) (is_opening_of n.id) items) (moved n m.id items) (without_open_marker m.id items)
    (λ edited. Holds edited (slice_set slots k Spent)) (λ e. holds-moved items slots j k n m at_node at holds) (λ e. holds-abandoned items slots k m at holds)
