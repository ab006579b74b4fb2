-- A marker is abandoned: its open marker's mark is taken away, or its event, where that is the last one and was made by a
-- start.
use Rattle.std.proofs.Common.{◌≡◌, ◌∙◌, ℕ, suc, ◌+◌, ◌==◌, Bool, true, false, List, [], ◌∷◌, ◌++◌, length, get_or, set, refl, sym, ap, arith, inl, inr}
use Rattle.std.specs.Prelude.{Contains, count_by}
use Rattle.std.proofs.Math.Bool.{and-false}
use Rattle.std.proofs.Math.ListN.{get_or-append}
use Rattle.std.proofs.Math.Seq.{get_or-append_seam}
use Rattle.std.proofs.lemmas.Bool.{eq-eqb, eqb-true, ne_eqb}
use Rattle.std.proofs.lemmas.Bool.Decides.{eqb_tells}
use Rattle.std.proofs.lemmas.Grind.{flat_map-append}
use Rattle.std.proofs.lemmas.List.{append-nil}
use Rattle.std.specs.List.{list_any}
use Rattle.std.proofs.lemmas.List.Elements.{All-contains_itself}
use Rattle.std.proofs.lemmas.List.Folds.{list_any_none}
use Rattle.std.proofs.lemmas.List.Sums.{sum_by-append}
use Rattle.squawk_kinds.specs.Kinds.{TOMBSTONE}
use Rattle.squawk_output.specs.declared.event.Event.{Event}
use Rattle.squawk_output.specs.declared.event.Event.TheVariants.{Finish}
use Rattle.squawk_output.specs.Chain.{tombstone}
use Rattle.squawk_output.specs.Draft.{Draft, OpenMarker, Item}
use Rattle.squawk_output.specs.declared.log.Made.{Made}
use Rattle.squawk_output.specs.declared.log.Made.TheVariants.{ByPrecede, ByStart}
use Rattle.squawk_output.specs.Edits.{abandoned, entries_gone, takes_entry, is_open_marker_of, is_last_start, without_open_marker}
use Rattle.squawk_output.specs.EventLog.{LinksLead, Log, is_error_event}
use Rattle.squawk_output.proofs.Gathered.{least_owner}
use Rattle.squawk_output.specs.KeptLogs.{IsRecord}
use Rattle.squawk_output.specs.LogDraft.{draft_items, draft_of}
use Rattle.squawk_output.proofs.GatheredItems.{made_by}
use Rattle.squawk_output.proofs.EditedLog.{IsRecordOf, errors_are, record-set, record_of}
use Rattle.squawk_output.proofs.GrownLog.{LinksLead-front, turns_of-push}
use Rattle.squawk_output.proofs.Groups.{itself}
use Rattle.squawk_output.proofs.LogEdits.{draft_items-filled, draft_items-push, length-push}
use Rattle.squawk_output.proofs.LogItems.{IsOpenMarkerAt, IsOpenMarkerAt-found, replaced-none}
use Rattle.squawk_output.proofs.LogTurns.{one_if, turns_at}
use Rattle.squawk_output.proofs.PlainLog.{HaveOpenMarkers}
use Rattle.squawk_output.proofs.Links.{LinksLead-unlinked}
use Rattle.squawk_output.proofs.Sums.{count_by-cons}
use Rattle.squawk_output.proofs.Owners.{owner-below}

-- ---- how many entries go

-- none of what passes no test
count-none : (p : Item → Bool) (items : List Item) → ((item : Item) → Contains items item → p item ≡ false) → count_by p items ≡ 0
count-none p [] fails = refl
count-none p (x ∷ xs) fails =
    let first = fails x (0, omega arith, refl) in
    let rest = count-none p xs (λ item there. fails item (suc there.0, omega (arith, there.1), there.2)) in
    omega (arith, count_by-cons p x xs, ap one_if first, rest)

-- ---- the mark is taken away

module _ (log : Log) (marks : List Bool) (recorded errors : ℕ) (is : IsRecord log marks recorded errors) (id : ℕ) (made : Made)
    (here : IsOpenMarkerAt log marks id made) (stays : is_last_start (length log) (OpenMarker id made) ≡ false) where
  none_goes : (item : Item) → Contains (draft_items log marks) item → takes_entry id (length log) item ≡ false
  none_goes (OpenMarker i how) there =
      let found = IsOpenMarkerAt-found log marks i how there in
      elim (eqb_tells i id) [
        | inl e ↦
            let same_made : how ≡ made = sym found.how ∙ (ap (made_by log) e.1 ∙ here.how) in
            let same : OpenMarker i how ≡ OpenMarker id made = rw (e.1, same_made) refl in
            rw (ap (is_last_start (length log)) same ∙ stays) (and-false (i == id))
        | inr e ↦ rw (ne_eqb i id e.1) refl
      ]
  none_goes item there = refl

  pub record-cleared : IsRecordOf (set log id tombstone) (set marks id false) recorded errors (abandoned (draft_of log marks recorded) id)
  record-cleared =
      let none : entries_gone (draft_of log marks recorded) id ≡ 0 = count-none (takes_entry id (length log)) (draft_items log marks) none_goes in
      let empty = is.open_markers id here.within here.marked in
      record-set log marks recorded errors is id TOMBSTONE tombstone here.within empty refl (LinksLead-unlinked log id TOMBSTONE is.links)
      (draft_items-filled log marks id TOMBSTONE tombstone (λ item. []) here.within is.same_length empty here.marked refl (λ how. refl))
      refl (omega (arith, none)) (omega (arith, none))

-- ---- the event is taken out

owns_itself : (log : Log) (id : ℕ) → made_by log id ≡ ByStart → least_owner log id ≡ id
owns_itself log id made = elim (eqb_tells (least_owner log id) id) [ inl e ↦ e.1 | inr e ↦ let never = rw e.0 at made in absurd (cc) ]

module _ (log : Log) (marks : List Bool) (event : Event) (mark : Bool) (recorded errors : ℕ) (is : IsRecord (log ++ event ∷ []) (marks ++ mark ∷ []) recorded errors)
    (here : IsOpenMarkerAt (log ++ event ∷ []) (marks ++ mark ∷ []) (length log) ByStart) where
  abbrev whole : Draft
  whole = draft_of (log ++ event ∷ []) (marks ++ mark ∷ []) recorded

  same : length marks ≡ length log
  same = omega (arith, is.same_length, length-push marks mark, length-push log event)

  mark_is : mark ≡ true
  mark_is = sym (get_or-append_seam marks mark [] false) ∙ (ap (λ i. get_or (marks ++ mark ∷ []) i false) same ∙ here.marked)

  event_is : event ≡ tombstone
  event_is = sym (get_or-append_seam log event [] Finish) ∙ is.open_markers (length log) here.within here.marked

  links-popped : LinksLead log
  links-popped =
      LinksLead-front log event is.links
      (λ i lt. owner-below (log ++ event ∷ []) (length log) i (omega (arith, lt, owns_itself (log ++ event ∷ []) (length log) here.how)))

  items-whole : whole.items ≡ draft_items log marks ++ OpenMarker (length log) ByStart ∷ []
  items-whole = draft_items-push log marks event mark links-popped same ∙ rw (event_is, mark_is) refl

  other_open_marker : (item : Item) → Contains (draft_items log marks) item → is_open_marker_of (length log) item ≡ false
  other_open_marker (OpenMarker i how) there = let found = IsOpenMarkerAt-found log marks i how there in ne_eqb i (length log) (λ e. absurd (omega (arith, e, found.within)))
  other_open_marker item there = refl

  no_open_marker_there : list_any (is_open_marker_of (length log)) (draft_items log marks) ≡ false
  no_open_marker_there =
      list_any_none (is_open_marker_of (length log)) (draft_items log marks)
      (λ k item lt. other_open_marker (get_or (draft_items log marks) k item) (All-contains_itself (draft_items log marks) k item lt))

  items-popped : draft_items log marks ≡ without_open_marker (length log) whole.items
  items-popped =
      let gone : without_open_marker (length log) (OpenMarker (length log) ByStart ∷ []) ≡ [] = rw (itself (length log)) refl in
      sym
      (ap (without_open_marker (length log)) items-whole
      ∙ (flat_map-append _ (draft_items log marks) (OpenMarker (length log) ByStart ∷ [])
      ∙ (ap (λ ys. without_open_marker (length log) (draft_items log marks) ++ ys) gone
      ∙ (append-nil (without_open_marker (length log) (draft_items log marks)) ∙ replaced-none (is_open_marker_of (length log)) (λ item. []) (draft_items log marks) no_open_marker_there))))

  one_goes : entries_gone whole (length log) ≡ 1
  one_goes =
      let p = takes_entry (length log) (length (log ++ event ∷ [])) in
      let open_marker = OpenMarker (length log) ByStart in
      let last : p open_marker ≡ true = rw (itself (length log)) (eq-eqb (length log + 1) (length (log ++ event ∷ [])) (omega (arith, length-push log event))) in
      omega (
        arith,
        ap (count_by p) items-whole,
        sum_by-append (λ item. one_if (p item)) (draft_items log marks) (open_marker ∷ []),
        count-none p (draft_items log marks) (λ item there. rw (other_open_marker item there) refl),
        ap one_if last,
      )

  open_markers-popped : HaveOpenMarkers log marks
  open_markers-popped index lt marked =
      sym (get_or-append log (event ∷ []) Finish index lt)
      ∙ is.open_markers index (omega (arith, lt, length-push log event)) (get_or-append marks (mark ∷ []) false index (omega (arith, lt, same)) ∙ marked)

  record-popped : IsRecordOf log marks recorded errors (abandoned whole (length log))
  record-popped =
      record_of same links-popped open_markers-popped (omega (arith, is.few, length-push log event)) is.small
      (omega (
        arith,
        errors_are (log ++ event ∷ []) (marks ++ mark ∷ []) recorded errors is,
        sum_by-append (λ x. one_if (is_error_event x)) log (event ∷ []),
        ap (λ x. one_if (is_error_event x)) event_is,
      ))
      items-popped refl (omega (arith, one_goes, length-push log event)) (omega (arith, one_goes, turns_of-push log event, ap turns_at event_is))

last_start : (entries id : ℕ) (how : Made) → is_last_start entries (OpenMarker id how) ≡ true → (how ≡ ByStart) × (id + 1 ≡ entries)
last_start entries id ByStart e = (refl, eqb-true (id + 1) entries e)
last_start entries id ByPrecede e = absurd (cc)

-- the last event is that of an open marker which was made by a start
pub record-front : (log front : Log) (marks front_marks : List Bool) (event : Event) (mark : Bool) (recorded errors id : ℕ) (how : Made) → IsRecord log marks recorded errors
    → IsOpenMarkerAt log marks id how → is_last_start (length log) (OpenMarker id how) ≡ true → log ≡ front ++ event ∷ [] → marks ≡ front_marks ++ mark ∷ []
    → IsRecordOf front front_marks recorded errors (abandoned (draft_of log marks recorded) id)
record-front log front marks front_marks event mark recorded errors id how is here last split split_marks =
    let start = last_start (length log) id how last in
    let at_end : id ≡ length front = omega (arith, start.1, ap length split, length-push front event) in
    rw (split, split_marks, at_end)
    (record-popped front front_marks event mark recorded errors (rw (split, split_marks) at is) (rw (split, split_marks, at_end, start.0) at here))
