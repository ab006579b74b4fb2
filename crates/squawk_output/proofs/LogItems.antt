-- The items of a log's events, and what they say of them.
use Rattle.std.proofs.Common.{◌≡◌, ◌≢◌, ℕ, zero, suc, ◌==◌, ◌<◌, ◌||◌, Bool, true, false, not, Some, None, Option, List, [], ◌∷◌, ◌++◌, length, get_or, refl, ap, arith, if◌then◌else◌}
use Rattle.std.specs.Prelude.{All, Contains}
use Rattle.std.specs.List.{flat_map, list_any}
use Rattle.std.proofs.lemmas.Bool.{ne_eqb}
use Rattle.std.proofs.lemmas.List.Elements.{All-append, All-cons, All-contains, All-nil, All-tail}
use Rattle.squawk_kinds.specs.Kinds.{TOMBSTONE}
use Rattle.squawk_output.specs.declared.event.Event.{Event}
use Rattle.squawk_output.specs.declared.event.Event.TheVariants.{Start, Finish, Token, Error}
use Rattle.squawk_output.specs.Draft as draft
use Rattle.squawk_output.specs.Draft.{IsAboveIds, Item, OpenMarker, Open, Close, ids_of}
use Rattle.squawk_output.specs.declared.log.Made.{Made}
use Rattle.squawk_output.specs.Edits.{is_open_marker_of, is_opening_of, replaced}
use Rattle.squawk_output.specs.EventLog.{Log, has_link}
use Rattle.squawk_output.proofs.Gathered.{each, gathered, least_owner, picked}
use Rattle.squawk_output.specs.LogDraft.{draft_items, items_of}
use Rattle.squawk_output.proofs.GatheredItems.{draft_items-gathered, made_by, items_of_index}

-- the items of an event are none or one: an open marker where it has a mark, an opening where it is a node's and has none, or
-- one without an id
pub items_of-cases : (P : List Item → Type 0) → P [] → P (Close ∷ []) → ((kind n : ℕ) → P (draft.Token kind n ∷ [])) → ((text : List ℕ) → P (draft.Error text ∷ []))
    → (index : ℕ) (made : Made) (event : Event) (mark : Bool) → (mark ≡ true → P (OpenMarker index made ∷ []))
    → ((kind : ℕ) (link : Option ℕ) → event ≡ Start kind link → mark ≡ false → (kind == TOMBSTONE) ≡ false → P (Open index kind (not (has_link (Start kind link))) ∷ []))
    → P (items_of index made event mark)
items_of-cases P none close token error index made (Start kind link) true open_marker opening = open_marker refl
items_of-cases P none close token error index made (Start kind link) false open_marker opening = cases (kind == TOMBSTONE) refl
  where
    cases : (b : Bool) → (kind == TOMBSTONE) ≡ b → P (if b then [] else Open index kind (not (has_link (Start kind link))) ∷ [])
    cases true is = none
    cases false is = opening kind link refl refl is
items_of-cases P none close token error index made Finish mark open_marker opening = close
items_of-cases P none close token error index made (Token kind n) mark open_marker opening = token kind n
items_of-cases P none close token error index made (Error text) mark open_marker opening = error text

-- ---- items of other indices

pub replaced-none : (p : Item → Bool) (f : Item → List Item) (items : List Item) → list_any p items ≡ false → replaced p f items ≡ items
replaced-none p f [] none = refl
replaced-none p f (item ∷ items) none = cases (p item) none (replaced-none p f items)
  where
    cases : (b : Bool) → (b || list_any p items) ≡ false → (list_any p items ≡ false → replaced p f items ≡ items)
        → (if b then f item else item ∷ []) ++ replaced p f items ≡ item ∷ items
    cases true e go = absurd (cc)
    cases false e go = ap (λ ys. item ∷ ys) (go e)

-- the event of an open marker
pub record IsOpenMarkerAt (log : Log) (marks : List Bool) (id : ℕ) (made : Made) : Type 0 where
  pub within : id < length log
  pub marked : get_or marks id false ≡ true
  pub how : made_by log id ≡ made

-- the event of a node that hasn't been preceded
pub record IsNodeAt (log : Log) (marks : List Bool) (id kind : ℕ) : Type 0 where
  pub within : id < length log
  pub unmarked : get_or marks id false ≡ false
  pub event : get_or log id Finish ≡ Start kind None
  pub whole : (kind == TOMBSTONE) ≡ false

pub Contains-only : {X : Type 0} (x y : X) → Contains (y ∷ []) x → y ≡ x
Contains-only x y (zero, lt, is) = is
Contains-only x y (suc k, lt, is) = absurd (omega (arith, lt))

module _ {X : Type 0} (P : X → Type 0) where
  All-only : (x : X) → P x → All P (x ∷ [])
  All-only x h = All-cons P x [] h (All-nil P)

  All-if : (b : Bool) (v : List X) → All P v → All P (if b then v else [])
  All-if true v h = h
  All-if false v h = All-nil P

  All-flat_map : {Y : Type 0} (f : Y → List X) (ys : List Y) → All (λ y. All P (f y)) ys → All P (flat_map f ys)
  All-flat_map f [] all = All-nil P
  All-flat_map f (y ∷ ys) all = All-append P (f y) (flat_map f ys) (all 0 y (omega arith)) (All-flat_map f ys (All-tail (λ y. All P (f y)) y ys all))

  All-picked : (p : ℕ → Bool) (items : ℕ → List X) (n : ℕ) → ((j : ℕ) → j < n → All P (items j)) → All P (picked p items n)
  All-picked p items zero all = All-nil P
  All-picked p items (suc n) all =
      All-append P (picked (λ j. p (suc j)) (λ j. items (suc j)) n) (if p 0 then items 0 else [])
      (All-picked (λ j. p (suc j)) (λ j. items (suc j)) n (λ j lt. all (suc j) (omega arith))) (All-if (p 0) (items 0) (all 0 (omega arith)))

  All-each : (items : ℕ → List X) (n : ℕ) → ((i : ℕ) → All P (items i)) → All P (each items n)
  All-each items zero all = All-nil P
  All-each items (suc n) all = All-append P (items 0) (each (λ i. items (suc i)) n) (all 0) (All-each (λ i. items (suc i)) n (λ i. all (suc i)))

  -- what is gathered has what the items of all indices have
  All-gathered : (own : ℕ → ℕ) (items : ℕ → List X) (n : ℕ) → ((j : ℕ) → j < n → All P (items j)) → All P (gathered own items n)
  All-gathered own items n all = All-each (λ i. picked (λ j. own j == i) items n) n (λ i. All-picked (λ j. own j == i) items n all)

module _ (log : Log) (marks : List Bool) where
  pub no_open_marker : (id j : ℕ) → j ≢ id → list_any (is_open_marker_of id) (items_of_index log marks j) ≡ false
  no_open_marker id j ne =
      items_of-cases (λ items. list_any (is_open_marker_of id) items ≡ false) refl refl (λ kind n. refl) (λ text. refl) j (made_by log j) (get_or log j Finish) (get_or marks j false)
      (λ marked. rw (ne_eqb j id ne) refl) (λ kind link is unmarked whole. refl)

  pub no_opening : (id j : ℕ) → j ≢ id → list_any (is_opening_of id) (items_of_index log marks j) ≡ false
  no_opening id j ne =
      items_of-cases (λ items. list_any (is_opening_of id) items ≡ false) refl refl (λ kind n. refl) (λ text. refl) j (made_by log j) (get_or log j Finish) (get_or marks j false)
      (λ marked. refl) (λ kind link is unmarked whole. rw (ne_eqb j id ne) refl)

  -- what an item says of its event
  abbrev Says : Item → Type 0
  Says (OpenMarker id made) = IsOpenMarkerAt log marks id made
  Says (Open id kind true) = IsNodeAt log marks id kind
  Says (Open id kind false) = id < length log
  Says item = Unit {0}

  index_says : (j : ℕ) → j < length log → All (Says) (items_of_index log marks j)
  index_says j lt =
      items_of-cases (All Says) (All-nil Says) (All-only Says Close tt) (λ kind n. All-only Says (draft.Token kind n) tt) (λ text. All-only Says (draft.Error text) tt)
      j (made_by log j) (get_or log j Finish) (get_or marks j false)
      (λ marked. All-only Says (OpenMarker j (made_by log j)) (record { within = lt; marked = marked; how = refl }))
      (λ kind link is unmarked whole. All-only Says (Open j kind (not (has_link (Start kind link)))) (opened kind link is unmarked whole))
    where
      opened : (kind : ℕ) (link : Option ℕ) → get_or log j Finish ≡ Start kind link → get_or marks j false ≡ false → (kind == TOMBSTONE) ≡ false
          → Says (Open j kind (not (has_link (Start kind link))))
      opened kind None is unmarked whole = record { within = lt; unmarked = unmarked; event = is; whole = whole }
      opened kind (Some distance) is unmarked whole = lt

  says : All Says (draft_items log marks)
  says = rw (draft_items-gathered log marks) (All-gathered Says (least_owner log) (items_of_index log marks) (length log) index_says)

  pub IsOpenMarkerAt-found : (id : ℕ) (made : Made) → Contains (draft_items log marks) (OpenMarker id made) → IsOpenMarkerAt log marks id made
  IsOpenMarkerAt-found id made = All-contains Says (draft_items log marks) (OpenMarker id made) says

  pub IsNodeAt-found : (id kind : ℕ) → Contains (draft_items log marks) (Open id kind true) → IsNodeAt log marks id kind
  IsNodeAt-found id kind = All-contains Says (draft_items log marks) (Open id kind true) says

  -- an id is an index of the log
  pub ids_within : IsAboveIds (length log) (draft_items log marks)
  ids_within = All-flat_map (λ i. i < length log) ids_of (draft_items log marks) (λ k item lt. within (get_or (draft_items log marks) k item) (says k item lt))
    where
      within : (item : Item) → Says item → All (λ i. i < length log) (ids_of item)
      within (OpenMarker id made) is = All-only (λ i. i < length log) id is.within
      within (Open id kind true) is = All-only (λ i. i < length log) id is.within
      within (Open id kind false) is = All-only (λ i. i < length log) id is
      within item is = All-nil (λ i. i < length log)
