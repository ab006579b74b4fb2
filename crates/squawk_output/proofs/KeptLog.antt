-- A log as it is kept, after each act: its draft is edited so.
use Rattle.std.proofs.Common.{◌≡◌, ◌≢◌, ◌∙◌, ℕ, ◌+◌, ◌-◌, ◌<◌, ◌≤◌, ◌^◌, Bool, true, false, Some, None, Option, List, [], ◌∷◌, ◌++◌, ap, arith, length, map, refl, set, sym}
use Rattle.std.specs.Prelude.{Contains, MatchOption}
use Rattle.std.specs.Option.{option_to_list}
use Rattle.std.proofs.lemmas.List.{map-append, map-set}
use Rattle.std.proofs.lemmas.List.Elements.{All-append, All-cons, All-nil, All-set}
use Rattle.std.proofs.lemmas.List.Sums.{count_by-le-length}
use Rattle.squawk_kinds.specs.Kinds.{TOMBSTONE}
use Rattle.squawk_output.specs.declared.event.Event.TheVariants as event
use Rattle.squawk_output.specs.declared.log.Made.{Made}
use Rattle.squawk_output.specs.StoredEvents.{StoredEvent}
use Rattle.squawk_output.specs.StoredEvents.{OpenMarker, Start, Finish, Token}
use Rattle.squawk_output.specs.Chain.{tombstone}
use Rattle.squawk_output.specs.Draft as draft
use Rattle.squawk_output.specs.Draft.{Draft, IsLogged}
use Rattle.squawk_output.specs.Edits.{abandoned, completed, extended, is_last_start, preceded, started, with_error, with_token}
use Rattle.squawk_output.specs.EventLog.{Log, is_error_event}
use Rattle.squawk_output.specs.KeptLogs.{IsKeptRecord, draft_in}
use Rattle.squawk_output.specs.LogDraft.{HasOpenMarkerOf}
use Rattle.squawk_output.specs.StoredEvents.{HasEventText, HaveEventTexts, event_of, is_open_event, link_of, log_in}
use Rattle.squawk_output.proofs.AbandonedLog.{record-cleared, record-front}
use Rattle.squawk_output.proofs.EditedLog.{IsRecordOf, errors_are, record-completed, record-extended, record-preceded, record-put}
use Rattle.squawk_output.proofs.LoggedDraft.{IsLogged-draft_of}
use Rattle.squawk_output.proofs.LogItems.{IsOpenMarkerAt, IsOpenMarkerAt-found, IsNodeAt, IsNodeAt-found}
use Rattle.squawk_output.proofs.StoredEvents.{HaveEventTexts-front, length-log_in, link_of-some, log_in-push}

-- a log is kept, and this is its draft
pub record IsKeptAs (texts : List (List ℕ)) (events : List StoredEvent) (recorded : ℕ) (d : Draft) : Type 0 where
  pub kept : IsKeptRecord texts events recorded
  pub is : draft_in texts events recorded ≡ d

pub logged_kept : (texts : List (List ℕ)) (events : List StoredEvent) (recorded : ℕ) → IsKeptRecord texts events recorded → IsLogged (draft_in texts events recorded)
logged_kept texts events recorded kept = IsLogged-draft_of (log_in texts events) (map is_open_event events) recorded (length texts) kept.log

-- there are no more texts than recorded events, and fewer than 2^32
pub texts-recorded : (texts : List (List ℕ)) (events : List StoredEvent) (recorded : ℕ) → IsKeptRecord texts events recorded → length texts ≤ recorded
texts-recorded texts events recorded kept =
    let log = log_in texts events in
    omega (
      arith,
      errors_are log (map is_open_event events) recorded (length texts) kept.log,
      count_by-le-length is_error_event log,
      kept.log.few,
    )

pub few_texts : (texts : List (List ℕ)) (events : List StoredEvent) (recorded : ℕ) → IsKeptRecord texts events recorded → length texts < 2 ^ 32
few_texts texts events recorded kept = omega (arith, texts-recorded texts events recorded kept, kept.log.small)

-- these events are those of the log, with these marks
record Reads (texts : List (List ℕ)) (events : List StoredEvent) (log : Log) (marks : List Bool) : Type 0 where
  log_is : log_in texts events ≡ log
  marks_are : map is_open_event events ≡ marks
  have : HaveEventTexts texts events

kept_as : {texts : List (List ℕ)} {events : List StoredEvent} {log : Log} {marks : List Bool} {recorded : ℕ} {d d' : Draft} → Reads texts events log marks
    → IsRecordOf log marks recorded (length texts) d → d ≡ d' → IsKeptAs texts events recorded d'
kept_as reads of same = record {
  kept = record { log = rw (reads.log_is, reads.marks_are) of.record_is; have_texts = reads.have };
  is = rw (reads.log_is, reads.marks_are) (of.draft_is ∙ same);
}

reads-push : {texts : List (List ℕ)} {events : List StoredEvent} {log : Log} {marks : List Bool} (x : StoredEvent) → Reads texts events log marks → HasEventText texts x
    → Reads texts (events ++ x ∷ []) (log ++ event_of texts x ∷ []) (marks ++ is_open_event x ∷ [])
reads-push {texts} {events} {log} {marks} x reads has = record {
  log_is = log_in-push texts events x ∙ ap (λ ys. ys ++ event_of texts x ∷ []) reads.log_is;
  marks_are = map-append is_open_event events (x ∷ []) ∙ ap (λ ms. ms ++ is_open_event x ∷ []) reads.marks_are;
  have = All-append (HasEventText texts) events (x ∷ []) reads.have (All-cons (HasEventText texts) x [] has (All-nil (HasEventText texts)));
}

reads-set : {texts : List (List ℕ)} {events : List StoredEvent} {log : Log} {marks : List Bool} (index : ℕ) (x : StoredEvent) → Reads texts events log marks → HasEventText texts x
    → Reads texts (set events index x) (set log index (event_of texts x)) (set marks index (is_open_event x))
reads-set {texts} {events} {log} {marks} index x reads has = record {
  log_is = map-set (event_of texts) events index x ∙ ap (λ ys. set ys index (event_of texts x)) reads.log_is;
  marks_are = map-set is_open_event events index x ∙ ap (λ ms. set ms index (is_open_event x)) reads.marks_are;
  have = All-set (HasEventText texts) events index x has reads.have;
}

module _ (texts : List (List ℕ)) (events : List StoredEvent) (recorded : ℕ) (old : Draft) (kept : IsKeptRecord texts events recorded)
    (view : draft_in texts events recorded ≡ old) where
  abbrev log : Log
  log = log_in texts events

  abbrev marks : List Bool
  marks = map is_open_event events

  here : Reads texts events log marks
  here = record { log_is = refl; marks_are = refl; have = kept.have_texts }

  room_for : old.recorded + 1 < 2 ^ 32 → recorded + 1 < 2 ^ 32
  room_for room = omega (arith, room, ap (λ d. d.recorded) view)

  at_open_marker : (id : ℕ) (made : Made) → Contains old.items (draft.OpenMarker id made) → IsOpenMarkerAt log marks id made
  at_open_marker id made there = IsOpenMarkerAt-found log marks id made (rw (ap (λ d. d.items) view) there)

  at_node : (node kind : ℕ) → Contains old.items (draft.Open node kind true) → IsNodeAt log marks node kind
  at_node node kind there = IsNodeAt-found log marks node kind (rw (ap (λ d. d.items) view) there)

  pub kept-open_marker : (events' : List StoredEvent) → events' ≡ events ++ OpenMarker ∷ [] → old.recorded + 1 < 2 ^ 32 → IsKeptAs texts events' (recorded + 1) (started old)
  kept-open_marker events' put room =
      rw put
      (kept_as (reads-push OpenMarker here tt) (record-put log marks recorded (length texts) kept.log tombstone true tt (λ marked. refl) (room_for room) (length texts) (omega arith))
      (ap started view))

  pub kept-token : (kind n : ℕ) (events' : List StoredEvent) → events' ≡ events ++ Token kind n ∷ [] → old.recorded + 1 < 2 ^ 32
      → IsKeptAs texts events' (recorded + 1) (with_token old kind n)
  kept-token kind n events' put room =
      rw put
      (kept_as (reads-push (Token kind n) here tt)
      (record-put log marks recorded (length texts) kept.log (event.Token kind n) false tt (λ marked. absurd (cc)) (room_for room) (length texts) (omega arith))
      (ap (λ d. with_token d kind n) view))

  pub kept-error : (text : List ℕ) (texts' : List (List ℕ)) (events' : List StoredEvent) → log_in texts' events' ≡ log ++ event.Error text ∷ []
      → map is_open_event events' ≡ marks ++ false ∷ [] → HaveEventTexts texts' events' → length texts' ≡ length texts + 1 → old.recorded + 1 < 2 ^ 32
      → IsKeptAs texts' events' (recorded + 1) (with_error old text)
  kept-error text texts' events' put unmarked have more room =
      kept_as (record { log_is = put; marks_are = unmarked; have = have })
      (record-put log marks recorded (length texts) kept.log (event.Error text) false tt (λ marked. absurd (cc)) (room_for room) (length texts') more)
      (ap (λ d. with_error d text) view)

  module _ (id : ℕ) (there : HasOpenMarkerOf old.items id) where
    open_marker : IsOpenMarkerAt log marks id there.0
    open_marker = at_open_marker id there.0 there.1

    pub open_marker-within : id < length events
    open_marker-within = omega (arith, open_marker.within, length-log_in texts events)

    pub kept-completed : (kind : ℕ) (ended events' : List StoredEvent) → ended ≡ events ++ Finish ∷ [] → events' ≡ set ended id (Start kind 0) → kind ≢ TOMBSTONE
        → old.recorded + 1 < 2 ^ 32 → IsKeptAs texts events' (recorded + 1) (completed old id kind)
    kept-completed kind ended events' put filled ne room =
        rw (filled, put)
        (kept_as (reads-set id (Start kind 0) (reads-push Finish here tt) tt)
        (record-completed log marks recorded (length texts) kept.log id there.0 kind open_marker ne (room_for room)) (ap (λ d. completed d id kind) view))

    pub kept-extended : (node kind : ℕ) → Contains old.items (draft.Open node kind true) → id < node → (events' : List StoredEvent)
        → events' ≡ set events id (Start TOMBSTONE (node - id)) → IsKeptAs texts events' recorded (extended old (record { id = node; kind = kind }) id)
    kept-extended node kind opening older events' put =
        let linked = link_of-some (node - id) (omega (arith, older)) in
        rw put
        (kept_as (reads-set id (Start TOMBSTONE (node - id)) here tt)
        (rw linked (record-extended log marks recorded (length texts) kept.log id open_marker.within open_marker.marked node kind (at_node node kind opening) older))
        (ap (λ d. extended d (record { id = node; kind = kind }) id) view))

  module _ (id : ℕ) (made : Made) (there : Contains old.items (draft.OpenMarker id made)) where
    pub kept-cleared : (entries : ℕ) (events' : List StoredEvent) → entries ≡ length events → false ≡ is_last_start entries (draft.OpenMarker id made)
        → events' ≡ set events id (Start TOMBSTONE 0) → IsKeptAs texts events' recorded (abandoned old id)
    kept-cleared entries events' len other put =
        rw put
        (kept_as (reads-set id (Start TOMBSTONE 0) here tt)
        (record-cleared log marks recorded (length texts) kept.log id made (at_open_marker id made there)
        (ap (λ n. is_last_start n (draft.OpenMarker id made)) (length-log_in texts events ∙ sym len) ∙ sym other))
        (ap (λ d. abandoned d id) view))

    pub kept-popped : (front : List StoredEvent) (entries : ℕ) → entries ≡ length events → true ≡ is_last_start entries (draft.OpenMarker id made) → (popped : Option StoredEvent) (m n : ℕ)
        → events ≡ front ++ option_to_list popped → MatchOption popped ((n ≡ 0) × (m ≡ 0)) (λ x. m + 1 ≡ n) → n ≡ length events → IsKeptAs texts front recorded (abandoned old id)
    kept-popped front entries len test None m n split cases count = absurd (omega (arith, cases.0, count, (at_open_marker id made there).within, length-log_in texts events))
    kept-popped front entries len test (Some x) m n split cases count =
        kept_as (record { log_is = refl; marks_are = refl; have = HaveEventTexts-front texts front x (rw split at kept.have_texts) })
        (record-front log (log_in texts front) marks (map is_open_event front) (event_of texts x) (is_open_event x) recorded (length texts) id made kept.log (at_open_marker id made there)
        (ap (λ n. is_last_start n (draft.OpenMarker id made)) (length-log_in texts events ∙ sym len) ∙ sym test)
        (ap (log_in texts) split ∙ log_in-push texts front x) (ap (map is_open_event) split ∙ map-append is_open_event front (x ∷ [])))
        (ap (λ d. abandoned d id) view)

  module _ (node kind : ℕ) (opening : Contains old.items (draft.Open node kind true)) where
    pub node-within : node < length events
    node-within = omega (arith, (at_node node kind opening).within, length-log_in texts events)

    pub kept-preceded : (link : ℕ) (more events' : List StoredEvent) → more ≡ events ++ OpenMarker ∷ [] → events' ≡ set more node (Start kind link) → link ≡ length events - node
        → old.recorded + 1 < 2 ^ 32 → IsKeptAs texts events' (recorded + 1) (preceded old node)
    kept-preceded link more events' put joined far room =
        let distance : link ≡ length log - node = omega (arith, far, length-log_in texts events) in
        let linked = ap link_of distance ∙ link_of-some (length log - node) (omega (arith, node-within, length-log_in texts events)) in
        rw (joined, put)
        (kept_as (reads-set node (Start kind link) (reads-push OpenMarker here tt) tt)
        (rw linked (record-preceded log marks recorded (length texts) kept.log node kind (at_node node kind opening) (room_for room))) (ap (λ d. preceded d node) view))
