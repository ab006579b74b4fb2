-- Calls that make markers or spend them.
use Rattle.std.proofs.Common.{◌≡◌, ◌∙◌, ℕ, ◌<◌, ◌&&◌, Bool, false, Option, Some, None, List, [], ◌∷◌, ◌++◌, arith, length, set, ap, sym, refl, length-append, IsTrue, nat_lt}
use Rattle.std.proofs.lemmas.Bool.{and_parts, ltb-true}
use Rattle.std.proofs.lemmas.List.{length-set, map-append, map-set, set-get_or, set-set}
use Rattle.squawk_output.specs.Draft.{Draft, Mark, Node}
use Rattle.squawk_output.specs.Steps.{Exit}
use Rattle.squawk_output.specs.Edits.{abandoned, completed, extended, preceded, started}
use Rattle.squawk_parser.specs.Recorded.{Begins, Completes, Precedes}
use Rattle.squawk_parser.specs.State.{State, Changes, HasNotFailed, Keeps, Records}
use Rattle.squawk_parser.specs.declared.parser.parse_error.ParseError.{ParseError}
use Rattle.squawk_parser.proofs.Markers.{changed, went-changed}
use Rattle.squawk_parser.proofs.RecordedSteps.{refuses-one}
use Rattle.squawk_script.specs.Events.{events_made}
use Rattle.squawk_script.specs.Meaning.{Run, marker_at, new_marker, seen, stepped}
use Rattle.squawk_script.specs.Slots.{FailsAt, Holds, IsAt, IsMarkerOf, IsTied, Performs, advanced, slot_at, status_of, statuses_of}
use Rattle.squawk_script.specs.declared.call.Call.{Call}
use Rattle.squawk_script.specs.declared.call.Call.TheVariants as calls
use Rattle.squawk_script.specs.declared.status.Status.TheVariants as status
use Rattle.squawk_script.specs.declared.slot.Slot.{Slot}
use Rattle.squawk_script.specs.declared.slot.Slot.TheVariants.{Open, Done, Spent}
use Rattle.squawk_script.proofs.Held.{holds-abandoned, holds-completed, holds-extended, holds-preceded, holds-started}
use Rattle.squawk_script.proofs.Refusals.{changes-fails, steps-fail}
use Rattle.squawk_script.proofs.SlotLists.{sides-pushed, sides-set, stays-set, within}

-- a run's marker that no call has made
abbrev pub no_node : Node
no_node = record { id = 0; kind = 0 }

-- a node is at hand elsewhere than where a slot was spent
at_hand : (slots taken : List Slot) (j k : ℕ) (n : Node) → taken ≡ set slots k Spent → slot_at taken j ≡ Done n → slot_at slots j ≡ Done n
at_hand slots taken j k n left is =
    stays-set Spent (λ slot. slot ≡ Done n → slot_at slots j ≡ Done n) slots k Spent j (λ was spent. absurd (cc)) (λ is. is) (rw left at is)

-- a node that is taken and kept again is where it was
put_back : (slots taken : List Slot) (j k : ℕ) (n : Node) → taken ≡ set slots k Spent → slot_at taken j ≡ Done n → set (set taken j Spent) j (Done n) ≡ set slots k Spent
put_back slots taken j k n left is = set-set taken j Spent (Done n) ∙ (ap (set taken j) (sym is) ∙ (set-get_or taken j Spent ∙ left))

-- a marker whose number is the lesser
pub is_older : (node marker : Bool) (k j : ℕ) → IsTrue (node && (marker && nat_lt k j)) → k < j
is_older node marker k j both = ltb-true k j (and_parts marker (nat_lt k j) (and_parts node (marker && nat_lt k j) both).1).1

pub limit-kept : {old new : State} → Keeps old new → old.limit ≡ length old.input → new.limit ≡ length new.input
limit-kept keeps limit = keeps.limit ∙ (limit ∙ ap length (sym keeps.input))

-- What an act that records these events does: a parser that goes on has the draft and the position of `after`.
pub record Acts (old new after : State) (events : List Bool) : Type 0 where
  pub draft : HasNotFailed new → new.draft ≡ after.draft
  pub went : HasNotFailed new → HasNotFailed old
  pub limit : old.limit ≡ length old.input → new.limit ≡ length new.input
  pub position : new.position ≡ after.position
  pub fails : HasNotFailed old → FailsAt old new events

-- one event is recorded that is no error
recorded : {old new : State} {edited : Draft} → Keeps old new → new.position ≡ old.position → Records old new edited
    → Acts old new (record old { draft = edited }) (false ∷ [])
recorded {old} {new} {edited} keeps position records = record {
  draft = records.draft;
  went = records.went;
  limit = limit-kept keeps;
  position = position;
  fails = steps-fail old new (Exit ∷ []) (refuses-one Exit refl records);
}

-- none is recorded, and all but the draft stays as it is
unrecorded : {old new : State} {edited : Draft} → Changes old new edited → Acts old new (record old { draft = edited }) []
unrecorded {old} {new} {edited} changes = record {
  draft = changed changes;
  went = went-changed changes;
  limit = λ limit. stays (λ s. s.limit ≡ length s.input) old.first_reason refl (λ d. limit);
  position = stays (λ s. s.position ≡ old.position) old.first_reason refl (λ d. refl);
  fails = changes-fails old new edited changes;
}
  where
    stays : (P : State → Type 0) (first : Option ParseError) → old.first_reason ≡ first → ((d : Draft) → P (record old { draft = d })) → P new
    stays P None e all = rw (changes.goes e) (all edited)
    stays P (Some reason) e all = rw (changes.stays (rw e refl)) (all old.draft)

module _ (old new : State) (slots slots' : List Slot) (tied : IsTied old slots) where
  -- the act of a call: the slots that it leaves are what the draft has, and its run is where the parser is
  pub acted : (call : Call) (after : State) (made : List Slot) (events : List Bool) → Acts old new after events → slots' ≡ made
      → (Holds old.draft.items slots → Holds after.draft.items made) → statuses_of made ≡ advanced (statuses_of slots) call
      → ((run : Run) → IsAt old slots run → IsAt after made (stepped old.words old.input run call))
      → ((run : Run) → IsAt old slots run → events_made old.words (seen old.input run) call ≡ events) → Performs old new slots slots' call
  acted call after made events acts now holds statuses step makes = rw now record {
    tied = record { holds = λ goes. rw (acts.draft goes) (holds (tied.holds (acts.went goes))); limit = acts.limit tied.limit };
    statuses = statuses;
    step = λ goes run at.
        let is = step run at in
        record { draft = is.draft ∙ sym (acts.draft goes); position = is.position ∙ sym acts.position; count = is.count; markers = is.markers };
    fails = λ goes run at. rw (makes run at) (acts.fails goes);
  }

  -- ---- the calls

  pub start-performs : (m : Mark) → Begins m old new → slots' ≡ slots ++ Open m ∷ [] → Performs old new slots slots' calls.Start
  start-performs m begins now =
      acted calls.Start (record old { draft = started old.draft }) (slots ++ Open m ∷ []) (false ∷ []) (recorded begins.keeps begins.position begins.records) now
      (holds-started old slots m begins.is begins.sound.logged.below) (map-append status_of slots (Open m ∷ []))
      (λ run at. record {
        draft = ap started at.draft;
        position = at.position;
        count = omega (arith, at.count, length-append run.markers (new_marker run ∷ []), length-append slots (Open m ∷ []));
        markers = sides-pushed IsMarkerOf Spent no_node slots run.markers (Open m) (new_marker run) at.count at.markers
            (ap (λ d. d.entries) at.draft ∙ sym (ap (λ m. m.id) begins.is));
      })
      (λ run at. refl)

  pub complete-performs : (k kind : ℕ) (m : Mark) → slot_at slots k ≡ Open m → Completes m.id kind old new
      → slots' ≡ set slots k (Done (record { id = m.id; kind = kind })) → Performs old new slots slots' (calls.Complete k kind)
  complete-performs k kind m is_open completes now =
      acted (calls.Complete k kind) (record old { draft = completed old.draft m.id kind }) (set slots k node) (false ∷ [])
      (recorded completes.keeps completes.position completes.records) now
      (holds-completed old.draft.items slots k kind m is_open) (map-set status_of slots k node)
      (λ run at.
      let id : (marker_at run k).id ≡ m.id = rw is_open at (at.markers k) in
      record {
        draft = rw (at.draft, id) refl;
        position = at.position;
        count = length-set run.markers k _ ∙ (at.count ∙ sym (length-set slots k _));
        markers = sides-set IsMarkerOf Spent no_node slots run.markers node (record { id = (marker_at run k).id; kind = kind }) at.count at.markers
            (ap (λ i. record { id = i; kind = kind }) id) k (within Spent slots k (λ e. cc));
      })
      (λ run at. refl)
    where
      node : Slot
      node = Done (record { id = m.id; kind = kind })

  -- a run where a slot is spent
  spent-at : {run : Run} → IsAt old slots run → (k : ℕ)
      → (length run.markers ≡ length (set slots k Spent)) × ((i : ℕ) → IsMarkerOf (slot_at (set slots k Spent) i) (marker_at run i))
  spent-at {run} at k = (
    at.count ∙ sym (length-set slots k Spent),
    λ i. stays-set Spent (λ slot. IsMarkerOf slot (marker_at run i)) slots k Spent i (λ was. tt) (at.markers i),
  )

  pub abandon-performs : (k : ℕ) (m : Mark) → slot_at slots k ≡ Open m → Changes old new (abandoned old.draft m.id) → slots' ≡ set slots k Spent
      → Performs old new slots slots' (calls.Abandon k)
  abandon-performs k m is_open changes now =
      acted (calls.Abandon k) (record old { draft = abandoned old.draft m.id }) (set slots k Spent) [] (unrecorded changes) now
      (holds-abandoned old.draft.items slots k m is_open) (map-set status_of slots k Spent)
      (λ run at.
      let id : (marker_at run k).id ≡ m.id = rw is_open at (at.markers k) in
      let spent = spent-at at k in
      record { draft = rw (at.draft, id) refl; position = at.position; count = spent.0; markers = spent.1 })
      (λ run at. refl)

  pub precede-performs : (k : ℕ) (n : Node) (m : Mark) → slot_at slots k ≡ Done n → Precedes n m old new → slots' ≡ set slots k Spent ++ Open m ∷ []
      → Performs old new slots slots' (calls.Precede k)
  precede-performs k n m is_done precedes now =
      acted (calls.Precede k) (record old { draft = preceded old.draft n.id }) (set slots k Spent ++ Open m ∷ []) (false ∷ [])
      (recorded precedes.keeps precedes.position precedes.records) now
      (holds-preceded old slots k n m is_done precedes.is precedes.sound.logged.below)
      (map-append status_of (set slots k Spent) (Open m ∷ []) ∙ ap (λ s. s ++ status.Open ∷ []) (map-set status_of slots k Spent))
      (λ run at.
      let node : marker_at run k ≡ n = rw is_done at (at.markers k) in
      let spent = spent-at at k in
      record {
        draft = rw (at.draft, node) refl;
        position = at.position;
        count = omega (arith, spent.0, length-append run.markers (new_marker run ∷ []), length-append (set slots k Spent) (Open m ∷ []));
        markers = sides-pushed IsMarkerOf Spent no_node (set slots k Spent) run.markers (Open m) (new_marker run) spent.0 spent.1
            (ap (λ d. d.entries) at.draft ∙ sym (ap (λ m. m.id) precedes.is));
      })
      (λ run at. refl)

  extend-performs : (j k : ℕ) (n : Node) (m : Mark) → slot_at slots j ≡ Done n → slot_at slots k ≡ Open m → Changes old new (extended old.draft n m.id)
      → slots' ≡ set slots k Spent → Performs old new slots slots' (calls.ExtendTo j k)
  extend-performs j k n m is_done is_open changes now =
      acted (calls.ExtendTo j k) (record old { draft = extended old.draft n m.id }) (set slots k Spent) [] (unrecorded changes) now
      (holds-extended old.draft.items slots j k n m is_done is_open) (map-set status_of slots k Spent)
      (λ run at.
      let node : marker_at run j ≡ n = rw is_done at (at.markers j) in
      let id : (marker_at run k).id ≡ m.id = rw is_open at (at.markers k) in
      let spent = spent-at at k in
      record { draft = rw (at.draft, node, id) refl; position = at.position; count = spent.0; markers = spent.1 })
      (λ run at. refl)

  module _ (taken : List Slot) (j k : ℕ) (n : Node) (m : Mark) (is_open : slot_at slots k ≡ Open m) (left : taken ≡ set slots k Spent) (is_done : slot_at taken j ≡ Done n) where
    -- an open marker before a node is older
    pub taken-older : k < j → HasNotFailed old → m.id < n.id
    taken-older lt goes = rw (is_open, at_hand slots taken j k n left is_done) at ((tied.holds goes).order k j lt)

    pub taken-performs : (node : Node) → node ≡ n → Changes old new (extended old.draft n m.id) → slots' ≡ set (set taken j Spent) j (Done node)
        → Performs old new slots slots' (calls.ExtendTo j k)
    taken-performs node same changes now =
        extend-performs j k n m (at_hand slots taken j k n left is_done) is_open changes
        (now ∙ (ap (λ x. set (set taken j Spent) j (Done x)) same ∙ put_back slots taken j k n left is_done))
