-- What a script may leave is one draft. It may fail for one reason, and only where its events or its
-- errors are too many: for the first event that finds no room.
use Rattle.std.proofs.Common.{◌≡◌, ◌≢◌, ◌∙◌, ℕ, suc, ◌<◌, ◌≤◌, Bool, true, false, Some, None, List, ◌∷◌, ◌++◌, length, get_or, take, drop, arith, ap, refl, sym, append_assoc, length-append}
use Rattle.std.proofs.Math.Seq.{split_at}
use Rattle.std.proofs.lemmas.List.{length-take, length-take-le, take-append-drop, take_all}
use Rattle.squawk_table.specs.ParserInput.{Entry}
use Rattle.squawk_output.specs.Steps.{errors_in}
use Rattle.squawk_output.specs.Draft.{Draft, plain}
use Rattle.squawk_parser.specs.State.{State, IsReason}
use Rattle.squawk_parser.specs.Words.{Words}
use Rattle.squawk_parser.specs.declared.parser.grammar.EntryPoint.{EntryPoint}
use Rattle.squawk_parser.specs.declared.parser.parse_error.ParseError.{ParseError}
use Rattle.squawk_parser.specs.declared.parser.parse_error.ParseError.TheVariants.{OutOfMemory, TooManyEvents, TooManyErrors}
use Rattle.squawk_script.specs.LeavesOne.{LeavesOne}
use Rattle.squawk_script.specs.Events.{IsRunOf, errors_among, events_of, refusal}
use Rattle.squawk_script.specs.Meaning.{Meaning, run_of}
use Rattle.squawk_script.specs.declared.call.Call.{Call}
use Rattle.squawk_script.specs.contracts.script.grammar.ScriptGrammar.TheImpl as grammar
use Rattle.squawk_output.proofs.PlainLog.{errors-plain}
use Rattle.squawk_script.proofs.Events.{errors-events, errors_among-append, recorded-events}
use Rattle.squawk_script.proofs.Refusals.{Means, error-at, is-none, refused-at, means}

-- a law: what a script leaves is one draft
pub leaves_one : (script : Meaning) → LeavesOne script
leaves_one script input from other one two first second = first ∙ sym second

-- ---- refusals

-- there is room for the events and for the errors among them
abbrev pub Fits : ℕ → ℕ → List Bool → Type 0
Fits events errors es = (length es ≤ events) × (errors_among es ≤ errors)

-- One of the events finds no room, and that for this reason, which isn't want of memory. Those in front of it found room.
pub record IsFirstRefused (events errors : ℕ) (es : List Bool) (reason : ParseError) : Type 0 where
  pub front : List Bool
  pub next : Bool
  pub rest : List Bool
  pub is : es ≡ front ++ next ∷ rest
  pub why : IsReason events errors (length front) (errors_among front) next reason
  pub limit : reason ≢ OutOfMemory

module _ (events errors : ℕ) (es : List Bool) where
  -- where there is room for all, none is refused
  pub none-refused : Fits events errors es → refusal events errors es ≡ None
  none-refused fits = is-none events errors es (omega (arith, fits.1, ap errors_among (take_all events es fits.0)), fits.0)

  -- where none is refused, there is room for all
  pub room-for-all : refusal events errors es ≡ None → Fits events errors es
  room-for-all is =
      let known = means events errors es None is in (known.1, omega (arith, known.0, ap errors_among (take_all events es known.1)))

  -- a law: too many events are refused only where there are more than there is room for
  pub more-events : refusal events errors es ≡ Some TooManyEvents → events < length es
  more-events is = (means events errors es (Some TooManyEvents) is).1

  -- a law: too many errors are refused only where there are more errors than there is room for
  pub more-errors : refusal events errors es ≡ Some TooManyErrors → errors < errors_among es
  more-errors is =
      let many = means events errors es (Some TooManyErrors) is in
      omega (arith, many, ap errors_among (take-append-drop events es), errors_among-append (take events es) (drop events es))

  -- a law: what is refused is the first event that finds no room
  pub first-refused : (reason : ParseError) → refusal events errors es ≡ Some reason → IsFirstRefused events errors es reason
  first-refused reason is = cases reason (means events errors es (Some reason) is)
    where
      cases : (r : ParseError) → Means events errors es (Some r) → IsFirstRefused events errors es r
      cases TooManyErrors many =
          let e = error-at errors (take events es) many in
          record {
            front = e.front;
            next = true;
            rest = e.rest ++ drop events es;
            is = sym (take-append-drop events es) ∙ (ap (λ xs. xs ++ drop events es) e.is ∙ append_assoc e.front (true ∷ e.rest) (drop events es));
            why = (refl, e.behind, omega (arith, length-take events es, ap length e.is, length-append e.front (true ∷ e.rest)));
            limit = λ same. let p = same in cc;
          }
      cases TooManyEvents (few, more) = record {
        front = take events es;
        next = get_or es events false;
        rest = drop (suc events) es;
        is = split_at es events false more;
        why = (length-take-le events es (omega (arith, more)), few);
        limit = λ same. let p = same in cc;
      }
      cases OutOfMemory never = absurd never

  -- and the first that finds none is refused
  pub refused-first : (reason : ParseError) → IsFirstRefused events errors es reason → refusal events errors es ≡ Some reason
  refused-first reason first =
      ap (refusal events errors) first.is ∙ refused-at events errors first.front first.next first.rest reason first.limit first.why

-- ---- the events of a run

module _ (words : Words) (input : List Entry) (calls : List Call) where
  -- there are as many as it recorded
  pub all-recorded : length (events_of words input calls) ≡ (run_of words input calls).draft.recorded
  all-recorded = recorded-events words input calls

  -- and as many errors among them as in its plain list
  pub all-errors : errors_among (events_of words input calls) ≡ errors_in (plain (run_of words input calls).draft.items)
  all-errors = errors-events words input calls ∙ errors-plain (run_of words input calls).draft.items

-- limits refuse none of a run's events exactly where a draft that it may leave is within them
module _ (script : Meaning) (input : List Entry) (left : Draft) (run : IsRunOf script input left) (events errors : ℕ) where
  abbrev IsWithin : Type 0
  IsWithin = (left.recorded ≤ events) × (errors_in (plain left.items) ≤ errors)

  abbrev IsUnrefused : Type 0
  IsUnrefused = refusal events errors (events_of script.words input script.calls) ≡ None

  recorded : length (events_of script.words input script.calls) ≡ left.recorded
  recorded = all-recorded script.words input script.calls ∙ sym (ap (λ d. d.recorded) run)

  wrong : errors_among (events_of script.words input script.calls) ≡ errors_in (plain left.items)
  wrong = all-errors script.words input script.calls ∙ ap (λ d. errors_in (plain d.items)) (sym run)

  pub unrefused : IsWithin → IsUnrefused
  unrefused within = none-refused events errors (events_of script.words input script.calls) (omega (arith, recorded, within.0), omega (arith, wrong, within.1))

  pub within : IsUnrefused → IsWithin
  within none =
      let fits = room-for-all events errors (events_of script.words input script.calls) none in
      (omega (arith, recorded, fits.0), omega (arith, wrong, fits.1))

-- ---- why a script may fail

module _ (script : Meaning) (entry other : EntryPoint) (begun first second : State) where
  -- what a run from an entry point may leave of a parser
  abbrev Leaves : EntryPoint → State → Type 0
  Leaves from left = grammar.runs-value.it script from begun left

  -- a law: its limits make it fail for one reason, which is the same from both
  pub one-reason : (one two : ParseError) → Leaves entry first → Leaves other second → first.first_reason ≡ Some one → second.first_reason ≡ Some two
      → one ≢ OutOfMemory → two ≢ OutOfMemory → one ≡ two
  one-reason one two left right is are limit limit' = let p = sym (left one is limit) ∙ right two are limit' in cc

  -- a law: a draft within the limits is one of a run that fails under them for want of memory alone
  pub none-fails : (d : Draft) → grammar.leaves-value.it script entry begun.input d → d.recorded ≤ begun.max_events → errors_in (plain d.items) ≤ begun.max_errors
      → Leaves other first → (reason : ParseError) → first.first_reason ≡ Some reason → reason ≢ OutOfMemory → ⊥
  none-fails d left events errors ran reason is limit =
      absurd (let p = sym (unrefused script begun.input d left begun.max_events begun.max_errors (events, errors)) ∙ ran reason is limit in cc)
