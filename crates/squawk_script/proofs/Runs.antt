-- The state of a run of calls, before each call.
use Rattle.std.proofs.Common.{◌≡◌, ◌≢◌, ◌∙◌, ℕ, ◌+◌, ◌<◌, ◌≤◌, Bool, true, false, Option, Some, None, List, [], ◌∷◌, ◌++◌, length, get_or, take, ap, sym, refl, subst, Contains, IsTrue}
use Rattle.std.proofs.Math.ListN.{get_or-map}
use Rattle.std.proofs.lemmas.List.{get_or_default, take_all}
use Rattle.std.proofs.lemmas.List.Elements.{All-contains_itself, All-weaker}
use Rattle.std.proofs.lemmas.List.Sums.{fold-append}
use Rattle.squawk_output.specs.Draft as draft
use Rattle.squawk_output.specs.Draft.{HasNoOpenMarker, Item, Mark, errors_of, is_open_marker}
use Rattle.squawk_parser.specs.State.{State, IsSound, HasNotFailed, IsFresh, Keeps}
use Rattle.squawk_parser.specs.declared.parser.parse_error.ParseError.{ParseError}
use Rattle.squawk_parser.specs.declared.parser.parse_error.ParseError.TheVariants.{OutOfMemory}
use Rattle.squawk_parser.proofs.RecordedSteps.{Keeps-none, Keeps-then, went}
use Rattle.squawk_script.specs.Accepted.{IsAccepted}
use Rattle.squawk_script.specs.Events.{FailsByLimits, IsRunOf, events_made, events_of, refusal}
use Rattle.squawk_script.specs.Meaning.{Run, begin, run_of, seen, stepped}
use Rattle.squawk_script.specs.Slots.{Holds, IsAt, IsTied, Performs, is_admitted, is_status_open, slot_at, status_of, statuses_of}
use Rattle.squawk_script.specs.declared.call.Call.{Call}
use Rattle.squawk_script.specs.declared.slot.Slot.{Slot}
use Rattle.squawk_script.specs.declared.slot.Slot.TheVariants.{Open, Spent}
use Rattle.squawk_script.proofs.Events.{errors-events, events-more, recorded-events}
use Rattle.squawk_script.proofs.GoodCalls.{admitted-at, next, opened-last, statuses-more}
use Rattle.squawk_script.proofs.Held.{holds-begin}
use Rattle.squawk_script.proofs.Refusals.{refusal-append}
use Rattle.squawk_script.proofs.Statuses.{AreStatusesOf, statuses-begin}

-- what limits did to a parser behind these calls
abbrev FailsBy : State → List Call → State → Type 0
FailsBy start calls s = FailsByLimits (record { calls = calls; words = start.words }) start s

pub record Stands (start : State) (calls : List Call) (s : State) (slots : List Slot) (i : ℕ) : Type 0 where
  pub tied : IsTied s slots
  pub keeps : Keeps start s
  pub statuses : AreStatusesOf (take i calls) (statuses_of slots)
  pub at : HasNotFailed s → IsAt s slots (run_of start.words start.input (take i calls))
  pub fails : FailsBy start (take i calls) s

-- before the first call
pub stands-begin : (start : State) (calls : List Call) → IsFresh start → IsSound start → Stands start calls start [] 0
stands-begin start calls fresh sound = record {
  tied = record {
    holds = λ goes. subst (λ s. Holds s.draft.items []) (sym fresh) holds-begin;
    limit = ap (λ s. s.limit) fresh;
  };
  keeps = Keeps-none start sound;
  statuses = statuses-begin;
  at = λ goes. record {
    draft = sym (ap (λ s. s.draft) fresh);
    position = sym (ap (λ s. s.position) fresh);
    count = refl;
    markers = λ i. tt;
  };
  fails = λ reason failed known. absurd (let p = sym failed ∙ ap (λ s. s.first_reason) fresh in cc);
}

module _ (start : State) (calls : List Call) (s : State) (slots : List Slot) (i : ℕ) (call : Call) (lt : i < length calls) (is : call ≡ get_or calls i call)
    (stands : Stands start calls s slots i) where
  -- an accepted call is admitted
  pub stands-admitted : IsAccepted calls → IsTrue (is_admitted (statuses_of slots) call)
  stands-admitted accepted = admitted-at calls (statuses_of slots) i call lt is stands.statuses (accepted.good i lt)

  -- one call on
  pub stands-next : IsAccepted calls → (t : State) (slots' : List Slot) → Keeps s t → Performs s t slots slots' call → Stands start calls t slots' (i + 1)
  stands-next accepted t slots' keeps performs = record {
    tied = performs.tied;
    keeps = Keeps-then stands.keeps keeps;
    statuses = rw performs.statuses (statuses-more calls (statuses_of slots) i call lt is stands.statuses (stands-admitted accepted));
    at = λ goes.
        let more : run_of start.words start.input (take (i + 1) calls) ≡ stepped start.words start.input run call =
        ap (run_of start.words start.input) upto ∙ fold-append (stepped start.words start.input) begin (take i calls) (call ∷ []) in
        rw more (rw (stands.keeps.words, stands.keeps.input) at (performs.step goes run (stands.at (went keeps goes))));
    fails = λ reason failed known.
        ap (refusal start.max_events start.max_errors) (ap (events_of start.words start.input) upto ∙ events-more start.words start.input (take i calls) call)
        ∙ refused s.first_reason refl reason failed known;
  }
    where
      run : Run
      run = run_of start.words start.input (take i calls)

      upto : take (i + 1) calls ≡ take i calls ++ call ∷ []
      upto = next calls (statuses_of slots) i call lt is stands.statuses

      before : List Bool
      before = events_of start.words start.input (take i calls)

      -- what is refused before the call stays so, and else it is the call that is refused
      refused : (first : Option ParseError) → s.first_reason ≡ first → (reason : ParseError) → t.first_reason ≡ Some reason → reason ≢ OutOfMemory
          → refusal start.max_events start.max_errors (before ++ events_made start.words (seen start.input run) call) ≡ Some reason
      refused None goes reason failed known =
          let at : IsAt s slots run = stands.at goes in
          let count = recorded-events start.words start.input (take i calls) ∙ ap (λ d. d.recorded) at.draft in
          let errors = errors-events start.words start.input (take i calls) ∙ ap (λ d. errors_of d.items) at.draft in
          rw (stands.keeps.words, stands.keeps.input, stands.keeps.max_events, stands.keeps.max_errors) at
          (performs.fails goes run at before count errors reason failed known)
      refused (Some r) failing reason failed known =
          let same : s.first_reason ≡ Some reason = sym (keeps.reason (rw failing refl)) ∙ failed in
          refusal-append start.max_events start.max_errors before (events_made start.words (seen start.input run) call) reason (stands.fails reason same known)

-- ---- behind the last call

-- items without an open marker have none
none : (items : List Item) → ((m : Mark) → Contains items (draft.OpenMarker m.id m.made) → ⊥) → HasNoOpenMarker items
none items never = All-weaker (Contains items) (λ item. is_open_marker item ≡ false) each items (All-contains_itself items)
  where
    each : (item : Item) → Contains items item → is_open_marker item ≡ false
    each (draft.OpenMarker i made) there = absurd (never (record { id = i; made = made }) there)
    each item there = refl

-- a slot that is open
open-slot : (slots : List Slot) (m : Mark) → ((i : ℕ) → is_status_open (status_of (slot_at slots i)) ≡ false) → Contains slots (Open m) → ⊥
open-slot slots m closed (k, lt, at) =
    let is : slot_at slots k ≡ Open m = get_or_default slots k Spent (Open m) lt ∙ at in
    let p : true ≡ false = sym (ap (λ slot. is_status_open (status_of slot)) is) ∙ closed k in cc

module _ (start : State) (calls : List Call) (s : State) (slots : List Slot) (i : ℕ) (end : length calls ≤ i) (stands : Stands start calls s slots i) (accepted : IsAccepted calls) where
  pub ends-spent : (m : ℕ) → is_status_open (status_of (slot_at slots m)) ≡ false
  ends-spent m =
      sym (ap is_status_open (get_or-map status_of slots m Spent))
      ∙ (opened-last calls (statuses_of slots) i end stands.statuses m ∙ accepted.spent m)

  pub ends-closed : HasNotFailed s → HasNoOpenMarker s.draft.items
  ends-closed goes = none s.draft.items (λ m there. absurd (open-slot slots m ends-spent ((stands.tied.holds goes).covers m there)))

  pub ends-at : HasNotFailed s → IsRunOf (record { calls = calls; words = start.words }) start.input s.draft
  ends-at goes = sym (stands.at goes).draft ∙ ap (λ before. (run_of start.words start.input before).draft) (take_all i calls end)

  pub ends-fails : FailsBy start calls s
  ends-fails = subst (λ before. FailsBy start before s) (take_all i calls end) stands.fails
