-- A link from an open marker to a node that has none, and the open marker's mark taken away: the open marker goes, and the opening stands
-- where the open marker stood, if that was before it.
use Rattle.std.proofs.Common.{◌≡◌, ◌≢◌, ◌∙◌, ◌⊎◌, ℕ, suc, ◌+◌, ◌==◌, ◌<◌, Bool, true, false, Some, None, List, [], ◌∷◌, length, get_or, set, refl, sym, ap, arith, if◌then◌else◌, inl, inr}
use Rattle.std.specs.List.{flat_map}
use Rattle.std.proofs.lemmas.Bool.{cases_order}
use Rattle.std.proofs.lemmas.Bool.Decides.{eqb_tells}
use Rattle.std.proofs.lemmas.List.{length-set, get_or-set_same, get_or-set_other}
use Rattle.std.proofs.Math.Dec.{ltb}
use Rattle.std.proofs.lemmas.Bool.{le-ltb, lt-ltb}
use Rattle.squawk_kinds.specs.Kinds.{TOMBSTONE}
use Rattle.squawk_output.specs.declared.event.Event.{Event}
use Rattle.squawk_output.specs.declared.event.Event.TheVariants.{Start, Finish}
use Rattle.squawk_output.specs.Chain.{tombstone}
use Rattle.squawk_output.specs.Draft.{Item, OpenMarker, Open}
use Rattle.squawk_output.specs.Edits.{extended_items, is_open_marker_of, is_opening_of, moved, replaced, stands_before, without_open_marker}
use Rattle.squawk_output.specs.EventLog.{Log, linked_index}
use Rattle.squawk_output.proofs.Gathered.{flat_map-twice, gathered, least_owner, picked}
use Rattle.squawk_output.specs.LogDraft.{draft_items}
use Rattle.squawk_output.proofs.GatheredItems.{draft_items-gathered, draft_items-same, flat_map-draft_items, made_by, items_of_index}
use Rattle.squawk_output.proofs.Groups.{itself}
use Rattle.squawk_output.proofs.LogItems.{IsNodeAt, no_open_marker, no_opening, replaced-none}
use Rattle.squawk_output.proofs.Owners.{farthest, gathered-joined, owner-elsewhere, owner-most, owner-remains}
use Rattle.squawk_output.proofs.StandsBefore.{each-first, group-none, group-some}

module _ (log : Log) (marks : List Bool) (id node kind d : ℕ) (same : length marks ≡ length log) (far : node ≡ id + suc d) (open_marker : get_or log id Finish ≡ tombstone)
    (marked : get_or marks id false ≡ true) (is : IsNodeAt log marks node kind) where
  abbrev n : ℕ
  n = length log

  abbrev linked : Event
  linked = Start TOMBSTONE (Some (suc d))

  abbrev new : Log
  new = set log id linked

  abbrev new_marks : List Bool
  new_marks = set marks id false

  abbrev opening : Item
  opening = Open node kind true

  older : id < node
  older = omega (arith, far)

  id_within : id < n
  id_within = omega (arith, far, is.within)

  none : linked_index (get_or log id Finish) ≡ None
  none = rw open_marker refl

  ends : linked_index (get_or log node Finish) ≡ None
  ends = rw is.event refl

  some_link : linked_index linked ≡ Some d
  some_link = ap Some (omega arith)

  owns : (j : ℕ) → j ≢ node → least_owner new j ≡ least_owner log j
  owns j ne = owner-elsewhere log id node d linked far none ends some_link is.within j ne

  -- ---- the items at the two indices

  old_open_marker : items_of_index log marks id ≡ OpenMarker id (made_by log id) ∷ []
  old_open_marker = rw (open_marker, marked) refl

  old_node : items_of_index log marks node ≡ opening ∷ []
  old_node = rw (is.event, is.unmarked, is.whole) refl

  new_open_marker : items_of_index new new_marks id ≡ []
  new_open_marker =
      let event = get_or-set_same log id linked Finish id_within in
      let mark = get_or-set_same marks id false false (omega (arith, id_within, same)) in
      rw (event, mark) refl

  not_id : node ≢ id
  not_id e = absurd (omega (arith, e, older))

  new_node : items_of_index new new_marks node ≡ opening ∷ []
  new_node = rw (get_or-set_other log id node linked Finish not_id, get_or-set_other marks id node false false not_id, is.event, is.unmarked, is.whole) refl

  elsewhere : (j : ℕ) → j ≢ id → j ≢ node → items_of_index new new_marks j ≡ items_of_index log marks j
  elsewhere j ne not_node = rw (owns j not_node, get_or-set_other log id j linked Finish ne, get_or-set_other marks id j false false ne) refl

  -- ---- which stands first

  abbrev group : ℕ → List Item
  group i = picked (λ j. least_owner log j == i) (items_of_index log marks) n

  not_same : least_owner log id ≢ least_owner log node
  not_same e = farthest log id node Finish none older is.within (sym e)

  stands_first : stands_before (is_open_marker_of id) (is_opening_of node) (draft_items log marks) ≡ ltb (least_owner log id) (least_owner log node)
  stands_first =
      ap (stands_before (is_open_marker_of id) (is_opening_of node)) (draft_items-gathered log marks)
      ∙ each-first (is_open_marker_of id) (is_opening_of node) group n (least_owner log id) (least_owner log node) not_same
      (omega (arith, owner-most log id, id_within)) (omega (arith, owner-most log node, is.within))
      (group-none (least_owner log) (items_of_index log marks) n id (is_open_marker_of id) (no_open_marker log marks id))
      (group-none (least_owner log) (items_of_index log marks) n node (is_opening_of node) (no_opening log marks node))
      (group-some (least_owner log) (items_of_index log marks) n id (is_open_marker_of id) (no_open_marker log marks id) id_within (rw (old_open_marker, itself id) refl))
      (group-some (least_owner log) (items_of_index log marks) n node (is_opening_of node) (no_opening log marks node) is.within (rw (old_node, itself node) refl))

  -- ---- the opening moves

  abbrev filled : Item → List Item
  filled item = opening ∷ []

  abbrev without_opening : Item → List Item
  without_opening item = if is_opening_of node item then [] else item ∷ []

  abbrev edit : Item → List Item
  edit item = replaced (is_open_marker_of id) filled (without_opening item)

  edited_elsewhere : (j : ℕ) → j < n → j ≢ node → j ≢ id → flat_map edit (items_of_index log marks j) ≡ items_of_index new new_marks j
  edited_elsewhere j lt not_node ne =
      let items = items_of_index log marks j in
      sym (flat_map-twice (λ item. if is_open_marker_of id item then filled item else item ∷ []) without_opening items)
      ∙ (ap (replaced (is_open_marker_of id) filled) (replaced-none (is_opening_of node) (λ item. []) items (no_opening log marks node j not_node))
      ∙ (replaced-none (is_open_marker_of id) filled items (no_open_marker log marks id j ne) ∙ sym (elsewhere j ne not_node)))

  opening_moves : least_owner log id < least_owner log node → draft_items new new_marks ≡ moved (record { id = node; kind = kind }) id (draft_items log marks)
  opening_moves lt =
      draft_items-gathered new new_marks
      ∙ (ap (gathered (least_owner new) (items_of_index new new_marks)) (length-set log id linked)
      ∙ (gathered-joined log id node d linked far none ends some_link is.within lt (items_of_index new new_marks) (λ j. flat_map edit (items_of_index log marks j))
      (rw (old_open_marker, itself id, new_node, new_open_marker) refl) (rw (old_node, itself node) refl) edited_elsewhere
      ∙ (sym (flat_map-draft_items edit log marks) ∙ sym (flat_map-twice (λ item. if is_open_marker_of id item then filled item else item ∷ []) without_opening (draft_items log marks)))))

  -- ---- or stays

  node_owner_stays : least_owner log node < least_owner log id → (j : ℕ) → least_owner new j ≡ least_owner log j
  node_owner_stays lt j =
      elim (eqb_tells j node) [
        | inl e ↦ rw e.1 (owner-remains log id node d linked far none ends some_link is.within lt)
        | inr e ↦ owns j e.1
      ]

  opening_stays : least_owner log node < least_owner log id → draft_items new new_marks ≡ without_open_marker id (draft_items log marks)
  opening_stays lt =
      draft_items-same (λ item. if is_open_marker_of id item then [] else item ∷ []) log new marks new_marks (length-set log id linked) (node_owner_stays lt)
      (λ j. elim (eqb_tells j id) [
        | inl e ↦ rw e.1 (new_open_marker ∙ sym (rw (old_open_marker, itself id) refl))
        | inr e ↦ rw (node_owner_stays lt j, get_or-set_other log id j linked Finish e.1, get_or-set_other marks id j false false e.1)
            (sym (replaced-none (is_open_marker_of id) (λ item. []) (items_of_index log marks j) (no_open_marker log marks id j e.1)))
      ])

  pub draft_items-extended : draft_items (set log id (Start TOMBSTONE (Some (suc d)))) (set marks id false)
      ≡ extended_items (record { id = node; kind = kind }) id (draft_items log marks)
  draft_items-extended = cases (cases_order (least_owner log id) (least_owner log node))
    where
      cases : (least_owner log id ≡ least_owner log node) ⊎ ((least_owner log id < least_owner log node) ⊎ (least_owner log node < least_owner log id))
          → draft_items new new_marks ≡ extended_items (record { id = node; kind = kind }) id (draft_items log marks)
      cases (inl e) = absurd (not_same e)
      cases (inr (inl lt)) = rw (stands_first, lt-ltb (least_owner log id) (least_owner log node) lt) (opening_moves lt)
      cases (inr (inr lt)) = rw (stands_first, le-ltb (least_owner log id) (least_owner log node) (omega arith)) (opening_stays lt)
