-- A log in which a parser records, after each act: it is one still, and its draft is edited so.
use Rattle.std.proofs.Common.{◌≡◌, ◌≢◌, ◌∙◌, ℕ, zero, suc, ◌+◌, ◌-◌, ◌<◌, ◌≤◌, ◌^◌, Bool, true, false, Some, None, List, [], ◌∷◌, ◌++◌, length, get_or, set, refl, sym, ap, arith, inl, inr}
use Rattle.std.proofs.Math.ListN.{get_or-append}
use Rattle.std.proofs.Math.Seq.{get_or-append_seam}
use Rattle.std.proofs.lemmas.Bool.{ne_eqb}
use Rattle.std.proofs.lemmas.Bool.Decides.{eqb_tells}
use Rattle.std.proofs.lemmas.Grind.{flat_map-append}
use Rattle.std.proofs.lemmas.List.{length-set, get_or-set_same, get_or-set_other, set-get_or}
use Rattle.std.proofs.lemmas.List.Sums.{sum_by-append, sum_by-set}
use Rattle.squawk_kinds.specs.Kinds.{TOMBSTONE}
use Rattle.squawk_output.specs.declared.event.Event.{Event}
use Rattle.squawk_output.specs.declared.event.Event.TheVariants.{Start, Finish}
use Rattle.squawk_output.specs.Chain.{tombstone}
use Rattle.squawk_output.specs.Draft.{Close, Draft, Item, Open}
use Rattle.squawk_output.specs.declared.log.Made.{Made}
use Rattle.squawk_output.specs.declared.log.Made.TheVariants.{ByStart}
use Rattle.squawk_output.specs.Edits.{completed, extended, filled, preceded}
use Rattle.squawk_output.specs.EventLog.{Lands, LinksLead, Log, errors_logged, is_error_event, is_start, is_start_at, turns_of}
use Rattle.squawk_output.specs.KeptLogs.{IsRecord}
use Rattle.squawk_output.specs.LogDraft.{draft_items, draft_of, items_of}
use Rattle.squawk_output.proofs.ExtendedLog.{draft_items-extended}
use Rattle.squawk_output.proofs.GrownLog.{LinksLead-linked, LinksLead-push, turns_of-push, turns_of-set}
use Rattle.squawk_output.proofs.Links.{LinksLead-unlinked}
use Rattle.squawk_output.proofs.LogEdits.{draft_items-filled, draft_items-preceded, draft_items-push, length-push}
use Rattle.squawk_output.proofs.LogItems.{IsOpenMarkerAt, IsNodeAt}
use Rattle.squawk_output.proofs.LogTurns.{one_if, turns_at}
use Rattle.squawk_output.proofs.PlainLog.{HaveOpenMarkers}
use Rattle.squawk_output.proofs.EditedErrors.{errors-draft_items}

pub draft_is : (items : List Item) (recorded entries turns : ℕ) (d : Draft) → items ≡ d.items → recorded ≡ d.recorded → entries ≡ d.entries → turns ≡ d.turns_due
    → record { items = items; recorded = recorded; entries = entries; turns_due = turns } ≡ d
draft_is items recorded entries turns d p q r s = rw (p, q, r, s) refl

-- a log in which a parser records, and its draft
pub record IsRecordOf (log : Log) (marks : List Bool) (recorded wrong : ℕ) (d : Draft) : Type 0 where
  pub record_is : IsRecord log marks recorded wrong
  pub draft_is : draft_of log marks recorded ≡ d

-- the errors of its draft are those of the log
pub record_of : {log : Log} {marks : List Bool} {recorded wrong : ℕ} {d : Draft} → length marks ≡ length log → LinksLead log → HaveOpenMarkers log marks → length log ≤ recorded
    → recorded < 2 ^ 32 → wrong ≡ errors_logged log → draft_items log marks ≡ d.items → recorded ≡ d.recorded → length log ≡ d.entries → turns_of log ≡ d.turns_due
    → IsRecordOf log marks recorded wrong d
record_of {log} {marks} {recorded} {wrong} {d} same links open_markers few small errors items count entries turns = record {
  record_is = record { same_length = same; links = links; open_markers = open_markers; few = few; small = small; errors = errors ∙ sym (errors-draft_items log marks) };
  draft_is = draft_is (draft_items log marks) recorded (length log) (turns_of log) d items count entries turns;
}

start-no_error : (event : Event) → is_start event ≡ true → is_error_event event ≡ false
start-no_error (Start kind link) is = refl
start-no_error event is = absurd (cc)

module _ (log : Log) (marks : List Bool) (recorded errors : ℕ) (is : IsRecord log marks recorded errors) where
  pub errors_are : errors ≡ errors_logged log
  errors_are = is.errors ∙ errors-draft_items log marks

  -- ---- an event at the end

  module _ (event : Event) (mark : Bool) (lands : Lands event []) (empty : mark ≡ true → event ≡ tombstone) where
    open_markers-put : HaveOpenMarkers (log ++ event ∷ []) (marks ++ mark ∷ [])
    open_markers-put index lt marked =
        elim (eqb_tells index (length log)) [
          | inl e ↦
              let last : get_or (marks ++ mark ∷ []) index false ≡ mark =
              ap (λ i. get_or (marks ++ mark ∷ []) i false) (e.1 ∙ sym is.same_length) ∙ get_or-append_seam marks mark [] false in
              ap (λ i. get_or (log ++ event ∷ []) i Finish) e.1 ∙ (get_or-append_seam log event [] Finish ∙ empty (sym last ∙ marked))
          | inr e ↦
              let ne = e.1 in
              let within : index < length log = omega (arith, lt, ne, length-push log event) in
              get_or-append log (event ∷ []) Finish index within
              ∙ is.open_markers index within (sym (get_or-append marks (mark ∷ []) false index (omega (arith, within, is.same_length))) ∙ marked)
        ]

    pub record-put : recorded + 1 < 2 ^ 32 → (wrong : ℕ) → wrong ≡ errors + one_if (is_error_event event)
        → IsRecordOf (log ++ event ∷ []) (marks ++ mark ∷ []) (recorded + 1) wrong
        (record { items = draft_items log marks ++ items_of (length log) ByStart event mark; recorded = recorded + 1; entries = length log + 1; turns_due = turns_of log + turns_at event })
    record-put room wrong more =
        record_of (omega (arith, length-push marks mark, length-push log event, is.same_length)) (LinksLead-push log event is.links lands) open_markers-put
        (omega (arith, is.few, length-push log event)) room
        (omega (arith, more, errors_are, sum_by-append (λ x. one_if (is_error_event x)) log (event ∷ [])))
        (draft_items-push log marks event mark is.links is.same_length) refl (omega (arith, length-push log event)) (turns_of-push log event)

  -- ---- a Start at a Start, without a mark

  open_markers-unmarked : (index : ℕ) (event : Event) → index < length log → HaveOpenMarkers (set log index event) (set marks index false)
  open_markers-unmarked index event lt i h marked =
      elim (eqb_tells i index) [
        | inl e ↦
            let gone : get_or (set marks index false) i false ≡ false =
            ap (λ j. get_or (set marks index false) j false) e.1 ∙ get_or-set_same marks index false false (omega (arith, lt, is.same_length)) in
            absurd (cc)
        | inr e ↦
            get_or-set_other log index i event Finish e.1
            ∙ is.open_markers i (omega (arith, h, length-set log index event)) (sym (get_or-set_other marks index i false false e.1) ∙ marked)
      ]

  module _ (index kind : ℕ) (event : Event) (within : index < length log) (old : get_or log index Finish ≡ Start kind None) (start : is_start event ≡ true) where
    pub record-set : {d : Draft} → LinksLead (set log index event) → draft_items (set log index event) (set marks index false) ≡ d.items → recorded ≡ d.recorded
        → length log ≡ d.entries → turns_of log + turns_at event ≡ d.turns_due + 2 → IsRecordOf (set log index event) (set marks index false) recorded errors d
    record-set {d} links items count entries turns =
        record_of (length-set marks index false ∙ (is.same_length ∙ sym (length-set log index event))) links (open_markers-unmarked index event within)
        (omega (arith, length-set log index event, is.few)) is.small
        (omega (
          arith,
          errors_are,
          sum_by-set (λ x. one_if (is_error_event x)) log index event Finish within,
          ap (λ x. one_if (is_error_event x)) old,
          ap one_if (start-no_error event start),
        ))
        items count (length-set log index event ∙ entries)
        (omega (arith, turns, turns_of-set log index event Finish within, ap turns_at old))

  -- an open marker becomes a node's opening
  module _ (id : ℕ) (within : id < length log) (marked : get_or marks id false ≡ true) where
    pub record-filled : (kind : ℕ) → kind ≢ TOMBSTONE
        → IsRecordOf (set log id (Start kind None)) (set marks id false) recorded errors (record (draft_of log marks recorded) { items = filled (draft_items log marks) id kind })
    record-filled kind ne =
        record-set id TOMBSTONE (Start kind None) within (is.open_markers id within marked) refl (LinksLead-unlinked log id kind is.links)
        (draft_items-filled log marks id TOMBSTONE (Start kind None) (λ item. Open id kind true ∷ []) within is.same_length (is.open_markers id within marked) marked refl
        (λ made. rw (ne_eqb kind TOMBSTONE ne) refl))
        refl refl refl

    -- or a link to a node behind it
    pub record-extended : (node kind : ℕ) → IsNodeAt log marks node kind → id < node
        → IsRecordOf (set log id (Start TOMBSTONE (Some (node - id)))) (set marks id false) recorded errors (extended (draft_of log marks recorded) (record { id = node; kind = kind }) id)
    record-extended node kind here older =
        let distance : node - id ≡ suc (node - id - 1) = omega (arith, older) in
        let away : node ≡ id + suc (node - id - 1) = omega (arith, older) in
        record-set id TOMBSTONE (Start TOMBSTONE (Some (node - id))) within (is.open_markers id within marked) refl
        (rw distance (LinksLead-linked log id node (node - id - 1) TOMBSTONE is.links away (start-here log node kind here.within here.event)))
        (ap (λ n. draft_items (set log id (Start TOMBSTONE (Some n))) (set marks id false)) distance
        ∙ draft_items-extended log marks id node kind (node - id - 1) is.same_length away (is.open_markers id within marked) marked here)
        refl refl (omega arith)
      where
        start-here : (log : Log) (index kind : ℕ) → index < length log → get_or log index Finish ≡ Start kind None → is_start_at log index ≡ true
        start-here [] index kind lt e = absurd (omega arith)
        start-here (x ∷ xs) zero kind lt e = rw e refl
        start-here (x ∷ xs) (suc n) kind lt e = start-here xs n kind (omega arith) e

-- a closing is put at the end, and the open marker becomes an opening
module _ (log : Log) (marks : List Bool) (recorded errors : ℕ) (is : IsRecord log marks recorded errors) where
  pub record-completed : (id : ℕ) (made : Made) (kind : ℕ) → IsOpenMarkerAt log marks id made → kind ≢ TOMBSTONE → recorded + 1 < 2 ^ 32
      → IsRecordOf (set (log ++ Finish ∷ []) id (Start kind None)) (set (marks ++ false ∷ []) id false) (recorded + 1) errors (completed (draft_of log marks recorded) id kind)
  record-completed id made kind here ne room =
      let ended = record-put log marks recorded errors is Finish false tt (λ never. absurd (cc)) room errors (omega arith) in
      let still = get_or-append marks (false ∷ []) false id (omega (arith, here.within, is.same_length)) ∙ here.marked in
      let filled_there = record-filled (log ++ Finish ∷ []) (marks ++ false ∷ []) (recorded + 1) errors ended.record_is id (omega (arith, here.within, length-push log Finish)) still kind ne in
      record {
        record_is = filled_there.record_is;
        draft_is =
            filled_there.draft_is
            ∙ (ap {A = Draft} (λ d. record d { items = filled d.items id kind }) ended.draft_is
            ∙ ap {A = List Item} (λ items. record { items = items; recorded = recorded + 1; entries = length log + 1; turns_due = turns_of log + 1 })
            (flat_map-append _ (draft_items log marks) (Close ∷ [])));
      }

  -- a new open marker at the end, and a link to it from a node
  pub record-preceded : (node kind : ℕ) → IsNodeAt log marks node kind → recorded + 1 < 2 ^ 32
      → IsRecordOf (set (log ++ tombstone ∷ []) node (Start kind (Some (length log - node)))) (set (marks ++ true ∷ []) node false) (recorded + 1) errors (preceded (draft_of log marks recorded) node)
  record-preceded node kind here room =
      let more = log ++ tombstone ∷ [] in
      let link = Start kind (Some (length log - node)) in
      let far : length log ≡ node + suc (length log - node - 1) = omega (arith, here.within) in
      let gap : length log - node ≡ suc (length log - node - 1) = omega (arith, here.within) in
      let put = record-put log marks recorded errors is tombstone true tt (λ h. refl) room errors (omega arith) in
      record-set more (marks ++ true ∷ []) (recorded + 1) errors put.record_is node kind link (omega (arith, here.within, length-push log tombstone))
      (get_or-append log (tombstone ∷ []) Finish node here.within ∙ here.event) refl
      (rw gap (LinksLead-linked more node (length log) (length log - node - 1) kind put.record_is.links far (start-last log)))
      (ap (draft_items (set more node link)) still-unmarked
      ∙ (ap (λ n. draft_items (set more node (Start kind (Some n))) (marks ++ true ∷ [])) gap
      ∙ draft_items-preceded log marks node kind (length log - node - 1) is.links is.same_length far here))
      refl (omega (arith, length-push log tombstone)) (omega (arith, turns_of-push log tombstone))
    where
      start-last : (log : Log) → is_start_at (log ++ tombstone ∷ []) (length log) ≡ true
      start-last [] = refl
      start-last (x ∷ xs) = start-last xs

      -- a node has no mark
      still-unmarked : set (marks ++ true ∷ []) node false ≡ marks ++ true ∷ []
      still-unmarked =
          let unmarked = get_or-append marks (true ∷ []) false node (omega (arith, here.within, is.same_length)) ∙ here.unmarked in
          ap (set (marks ++ true ∷ []) node) (sym unmarked) ∙ set-get_or (marks ++ true ∷ []) node false
