-- An event put at the end of a log, an open marker that becomes something else, and a link to an open marker at the end: each is an
-- edit of the draft.
use Rattle.std.proofs.Common.{◌≡◌, ◌≢◌, ◌∙◌, ℕ, suc, ◌+◌, ◌==◌, ◌<◌, Bool, true, false, Some, None, List, [], ◌∷◌, ◌++◌, length, length-append, get_or, set, refl, sym, ap, arith, if◌then◌else◌, inl, inr}
use Rattle.std.proofs.Math.ListN.{get_or-append}
use Rattle.std.proofs.Math.Seq.{get_or-append_seam}
use Rattle.std.proofs.lemmas.Bool.{ne_eqb}
use Rattle.std.proofs.lemmas.Bool.Decides.{eqb_tells}
use Rattle.std.proofs.lemmas.List.{append-nil, length-set, get_or-set_same, get_or-set_other}
use Rattle.squawk_output.specs.declared.event.Event.{Event}
use Rattle.squawk_output.specs.declared.event.Event.TheVariants.{Start, Finish}
use Rattle.squawk_output.specs.Chain.{tombstone}
use Rattle.squawk_output.specs.Draft.{Item, OpenMarker, Open}
use Rattle.squawk_output.specs.declared.log.Made.{Made}
use Rattle.squawk_output.specs.declared.log.Made.TheVariants.{ByPrecede, ByStart}
use Rattle.squawk_output.specs.Edits.{is_open_marker_of, is_opening_of, preceded_item, replaced}
use Rattle.squawk_output.specs.EventLog.{LinksLead, Log, linked_index}
use Rattle.squawk_output.proofs.Gathered.{gathered, least_owner}
use Rattle.squawk_output.specs.LogDraft.{draft_items, items_of}
use Rattle.squawk_output.proofs.GatheredItems.{draft_items-gathered, draft_items-same, flat_map-draft_items, made_by, items_of_index}
use Rattle.squawk_output.proofs.Groups.{gathered-push, itself}
use Rattle.squawk_output.proofs.LogItems.{IsNodeAt, no_open_marker, no_opening, replaced-none}
use Rattle.squawk_output.proofs.Owners.{gathered-joined, owner-elsewhere, owner-joins, owner-kept, owner-last, owner-most, owner-push}

pub length-push : {X : Type 0} (xs : List X) (x : X) → length (xs ++ x ∷ []) ≡ suc (length xs)
length-push xs x = omega (arith, length-append xs (x ∷ []))

-- an event at the end, with its mark: its items stand at the end
module _ (log : Log) (marks : List Bool) (event : Event) (mark : Bool) (links : LinksLead log) (same : length marks ≡ length log) where
  pub pushed-below : (j : ℕ) → j < length log → items_of_index (log ++ event ∷ []) (marks ++ mark ∷ []) j ≡ items_of_index log marks j
  pushed-below j lt =
      let marked : j < length marks = omega (arith, lt, same) in
      rw (owner-push log event j lt, get_or-append log (event ∷ []) Finish j lt, get_or-append marks (mark ∷ []) false j marked) refl

  last_mark : get_or (marks ++ mark ∷ []) (length log) false ≡ mark
  last_mark = ap (λ i. get_or (marks ++ mark ∷ []) i false) (sym same) ∙ get_or-append_seam marks mark [] false

  pushed-last : items_of_index (log ++ event ∷ []) (marks ++ mark ∷ []) (length log) ≡ items_of (length log) ByStart event mark
  pushed-last = rw (owner-last log event links, itself (length log), get_or-append_seam log event [] Finish, last_mark) refl

  pub draft_items-push : draft_items (log ++ event ∷ []) (marks ++ mark ∷ []) ≡ draft_items log marks ++ items_of (length log) ByStart event mark
  draft_items-push =
      draft_items-gathered (log ++ event ∷ []) (marks ++ mark ∷ [])
      ∙ (ap (gathered (least_owner (log ++ event ∷ [])) (items_of_index (log ++ event ∷ []) (marks ++ mark ∷ []))) (length-push log event)
      ∙ (gathered-push (least_owner log) (least_owner (log ++ event ∷ [])) (items_of_index log marks) (items_of_index (log ++ event ∷ []) (marks ++ mark ∷ [])) (length log) (owner-push log event)
      pushed-below (λ j lt. omega (arith, owner-most log j, lt)) (owner-last log event links)
      ∙ (ap (λ ys. gathered (least_owner log) (items_of_index log marks) (length log) ++ ys) pushed-last
      ∙ ap (λ ys. ys ++ items_of (length log) ByStart event mark) (sym (draft_items-gathered log marks)))))

-- an open marker's event changed to one without a link, and its mark taken away: the open marker is replaced by what the event then
-- stands for
pub draft_items-filled : (log : Log) (marks : List Bool) (id kind : ℕ) (event : Event) (f : Item → List Item) → id < length log → length marks ≡ length log
    → get_or log id Finish ≡ Start kind None → get_or marks id false ≡ true → linked_index event ≡ None → ((made : Made) → items_of id made event false ≡ f (OpenMarker id made))
    → draft_items (set log id event) (set marks id false) ≡ replaced (is_open_marker_of id) f (draft_items log marks)
draft_items-filled log marks id kind event f lt same is marked alone gives =
    let owns : (j : ℕ) → least_owner (set log id event) j ≡ least_owner log j = owner-kept log id event Finish (rw is alone) in
    draft_items-same (λ item. if is_open_marker_of id item then f item else item ∷ []) log (set log id event) marks (set marks id false) (length-set log id event) owns
    (λ j. elim (eqb_tells j id) [
      | inl e ↦ rw (e.1, owns id, get_or-set_same log id event Finish lt, get_or-set_same marks id false false (omega (arith, lt, same)), is, marked, itself id)
          (gives (made_by log id) ∙ sym (append-nil (f (OpenMarker id (made_by log id)))))
      | inr e ↦ rw (owns j, get_or-set_other log id j event Finish e.1, get_or-set_other marks id j false false e.1)
          (sym (replaced-none (is_open_marker_of id) f (items_of_index log marks j) (no_open_marker log marks id j e.1)))
    ])

-- a new open marker at the end, and a link to it from a node that has none: the open marker stands directly before the node's opening
module _ (log : Log) (marks : List Bool) (node kind d : ℕ) (links : LinksLead log) (same : length marks ≡ length log) (far : length log ≡ node + suc d)
    (is : IsNodeAt log marks node kind) where
  abbrev n : ℕ
  n = length log

  abbrev more : Log
  more = log ++ tombstone ∷ []

  abbrev linked : Event
  linked = Start kind (Some (suc d))

  abbrev new : Log
  new = set more node linked

  abbrev new_marks : List Bool
  new_marks = marks ++ true ∷ []

  abbrev edit : Item → List Item
  edit item = OpenMarker n ByPrecede ∷ preceded_item item ∷ []

  -- the items of an index as the edit has them, and none of the new one, which stand at the node's
  abbrev edited : ℕ → List Item
  edited j = if j == n then [] else replaced (is_opening_of node) edit (items_of_index log marks j)

  n_within : n < length more
  n_within = omega (arith, length-push log tombstone)

  none : linked_index (get_or more node Finish) ≡ None
  none = rw (get_or-append log (tombstone ∷ []) Finish node is.within, is.event) refl

  ends : linked_index (get_or more n Finish) ≡ None
  ends = rw (get_or-append_seam log tombstone [] Finish) refl

  some : linked_index linked ≡ Some d
  some = ap Some (omega arith)

  owns : (j : ℕ) → j < n → least_owner new j ≡ least_owner log j
  owns j lt = owner-elsewhere more node n d linked far none ends some n_within j (λ e. absurd (omega (arith, e, lt))) ∙ owner-push log tombstone j lt

  node_owner : least_owner more node ≡ least_owner log node
  node_owner = owner-push log tombstone node is.within

  owner_first : least_owner more node < least_owner more n
  owner_first = omega (arith, owner-most log node, owner-last log tombstone links, node_owner, is.within)

  owns_last : least_owner new n ≡ least_owner more node
  owns_last = owner-joins more node n d linked far none ends some n_within owner_first

  marks_below : (j : ℕ) → j < n → get_or new_marks j false ≡ get_or marks j false
  marks_below j lt = get_or-append marks (true ∷ []) false j (omega (arith, lt, same))

  new_last : items_of_index new new_marks n ≡ OpenMarker n ByPrecede ∷ []
  new_last =
      let event : get_or new n Finish ≡ tombstone =
      get_or-set_other more node n linked Finish (λ e. absurd (omega (arith, e, is.within))) ∙ get_or-append_seam log tombstone [] Finish in
      let mark : get_or new_marks n false ≡ true = ap (λ i. get_or new_marks i false) (sym same) ∙ get_or-append_seam marks true [] false in
      let owned : (least_owner new n == n) ≡ false =
      ne_eqb (least_owner new n) n (λ e. absurd (omega (arith, e, owner-most log node, owns_last, node_owner, is.within))) in
      rw (owned, event, mark) refl

  new_node : items_of_index new new_marks node ≡ Open node kind false ∷ []
  new_node =
      let event : get_or new node Finish ≡ linked = get_or-set_same more node linked Finish (omega (arith, is.within, n_within)) in
      let mark : get_or new_marks node false ≡ false = marks_below node is.within ∙ is.unmarked in
      rw (event, mark, is.whole) refl

  old_node : replaced (is_opening_of node) edit (items_of_index log marks node) ≡ OpenMarker n ByPrecede ∷ Open node kind false ∷ []
  old_node = rw (is.event, is.unmarked, is.whole, itself node) refl

  elsewhere : (j : ℕ) → j < n → j ≢ node → items_of_index new new_marks j ≡ items_of_index log marks j
  elsewhere j lt ne = rw (owns j lt, get_or-set_other more node j linked Finish ne, get_or-append log (tombstone ∷ []) Finish j lt, marks_below j lt) refl

  edited_below : (j : ℕ) → j < n → edited j ≡ replaced (is_opening_of node) edit (items_of_index log marks j)
  edited_below j lt = rw (ne_eqb j n (λ e. absurd (omega (arith, e, lt)))) refl

  edited_last : edited n ≡ []
  edited_last = rw (itself n) refl

  edited_node : edited node ≡ items_of_index new new_marks n ++ items_of_index new new_marks node
  edited_node = edited_below node is.within ∙ (old_node ∙ rw (new_last, new_node) refl)

  edited_elsewhere : (j : ℕ) → j < suc n → j ≢ n → j ≢ node → edited j ≡ items_of_index new new_marks j
  edited_elsewhere j h ne not_node =
      let lt : j < n = omega (arith, h, ne) in
      edited_below j lt
      ∙ (replaced-none (is_opening_of node) edit (items_of_index log marks j) (no_opening log marks node j not_node) ∙ sym (elsewhere j lt not_node))

  whole_edit : gathered (least_owner more) edited (suc n) ≡ replaced (is_opening_of node) edit (draft_items log marks)
  whole_edit =
      gathered-push (least_owner log) (least_owner more) (λ j. replaced (is_opening_of node) edit (items_of_index log marks j)) edited n (owner-push log tombstone) edited_below
      (λ j lt. omega (arith, owner-most log j, lt)) (owner-last log tombstone links)
      ∙ (ap (λ ys. gathered (least_owner log) (λ j. replaced (is_opening_of node) edit (items_of_index log marks j)) n ++ ys) edited_last
      ∙ (append-nil (gathered (least_owner log) (λ j. replaced (is_opening_of node) edit (items_of_index log marks j)) n)
      ∙ sym (flat_map-draft_items (λ item. if is_opening_of node item then edit item else item ∷ []) log marks)))

  pub draft_items-preceded : draft_items (set (log ++ tombstone ∷ []) node (Start kind (Some (suc d)))) (marks ++ true ∷ [])
      ≡ replaced (is_opening_of node) (λ item. OpenMarker (length log) ByPrecede ∷ preceded_item item ∷ []) (draft_items log marks)
  draft_items-preceded =
      draft_items-gathered new new_marks
      ∙ (ap (gathered (least_owner new) (items_of_index new new_marks)) (length-set more node linked)
      ∙ (gathered-joined more node n d linked far none ends some n_within owner_first (items_of_index new new_marks) edited edited_node edited_last
      (λ j h. edited_elsewhere j (omega (arith, h, length-push log tombstone)))
      ∙ (ap (gathered (least_owner more) edited) (length-push log tombstone) ∙ whole_edit)))
