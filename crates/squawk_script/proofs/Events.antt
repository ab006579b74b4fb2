-- The run of a list of calls counts its events.
use Rattle.std.proofs.Common.{◌≡◌, ◌∙◌, ◌+◌, Bool, List, [], ◌∷◌, ◌++◌, cond, length, map, arith, ap, sym, refl, append_assoc, length-append, fold}
use Rattle.std.proofs.lemmas.List.{append-nil, length-map}
use Rattle.std.proofs.lemmas.List.Sums.{sum_by-append}
use Rattle.squawk_table.specs.ParserInput.{Entry}
use Rattle.squawk_output.specs.Steps.{Step, errors_in, is_error}
use Rattle.squawk_output.specs.Draft as draft
use Rattle.squawk_output.specs.Draft.{Draft, errors_of}
use Rattle.squawk_output.specs.declared.log.Made.TheVariants.{ByPrecede, ByStart}
use Rattle.squawk_parser.specs.Words.{Words}
use Rattle.squawk_output.proofs.EditedErrors.{errors-append, errors-extended, errors-filled, errors-preceded, errors-without_open_marker}
use Rattle.squawk_output.proofs.Sums.{count_by-cons}
use Rattle.squawk_output.specs.Edits.{filled}
use Rattle.squawk_parser.specs.Recorded.{with_steps}
use Rattle.squawk_parser.proofs.StepsAtEnd.{errors-with_steps}
use Rattle.squawk_script.specs.Events.{errors_among, events_from, events_made, events_of}
use Rattle.squawk_script.specs.Meaning.{Run, begin, call_steps, marker_at, run_of, seen, stepped}
use Rattle.squawk_script.specs.declared.call.Call.{Call}
use Rattle.squawk_script.specs.declared.call.Call.TheVariants.{Start, Complete, Abandon, Precede, ExtendTo}

pub errors_among-append : (xs ys : List Bool) → errors_among (xs ++ ys) ≡ errors_among xs + errors_among ys
errors_among-append xs ys = sum_by-append (λ event. cond event 1 0) xs ys

pub errors_among-cons : (x : Bool) (xs : List Bool) → errors_among (x ∷ xs) ≡ cond x 1 0 + errors_among xs
errors_among-cons x xs = count_by-cons (λ event. event) x xs

-- the errors among steps
pub errors_among-steps : (steps : List Step) → errors_among (map is_error steps) ≡ errors_in steps
errors_among-steps [] = refl
errors_among-steps (step ∷ steps) =
    errors_among-cons (is_error step) (map is_error steps) ∙ (ap (λ n. cond (is_error step) 1 0 + n) (errors_among-steps steps) ∙ sym (count_by-cons is_error step steps))

-- The second draft has these events more.
pub record HasMore (old new : Draft) (events : List Bool) : Type 0 where
  pub recorded : new.recorded ≡ old.recorded + length events
  pub errors : errors_of new.items ≡ errors_of old.items + errors_among events

more-then : (a b c : Draft) (xs ys : List Bool) → HasMore a b xs → HasMore b c ys → HasMore a c (xs ++ ys)
more-then a b c xs ys first second = record {
  recorded = omega (arith, first.recorded, second.recorded, length-append xs ys);
  errors = omega (arith, first.errors, second.errors, errors_among-append xs ys);
}

-- ---- steps at the end

more-steps : (d : Draft) (xs : List Step) → HasMore d (with_steps d xs) (map is_error xs)
more-steps d xs = record {
  recorded = omega (arith, length-map xs is_error);
  errors = omega (arith, errors-with_steps d xs, errors_among-steps xs);
}

-- ---- one call

module _ (words : Words) (input : List Entry) (run : Run) where
  abbrev IsCounted : Call → Type 0
  IsCounted call = HasMore run.draft (stepped words input run call).draft (events_made words (seen input run) call)

  more-call : (call : Call) → IsCounted call
  more-call Start = record { recorded = refl; errors = errors-append run.draft.items (draft.OpenMarker run.draft.entries ByStart ∷ []) }
  more-call (Complete m kind) =
      let id = (marker_at run m).id in
      record { recorded = refl; errors = errors-append (filled run.draft.items id kind) (draft.Close ∷ []) ∙ ap (λ n. n + 0) (errors-filled id kind run.draft.items) }
  more-call (Abandon m) = record { recorded = omega arith; errors = omega (arith, errors-without_open_marker (marker_at run m).id run.draft.items) }
  more-call (Precede n) = record { recorded = refl; errors = omega (arith, errors-preceded (marker_at run n).id run.draft.entries ByPrecede run.draft.items) }
  more-call (ExtendTo n m) = record { recorded = omega arith; errors = omega (arith, errors-extended (marker_at run n) (marker_at run m).id run.draft.items) }
  more-call call = more-steps run.draft (call_steps words (seen input run) call)

-- ---- all calls

module _ (words : Words) (input : List Entry) where
  more-from : (run : Run) (calls : List Call) → HasMore run.draft (fold (stepped words input) run calls).draft (events_from words input run calls)
  more-from run [] = record { recorded = omega arith; errors = omega arith }
  more-from run (call ∷ calls) =
      let next : Run = stepped words input run call in
      more-then run.draft next.draft (fold (stepped words input) next calls).draft (events_made words (seen input run) call) (events_from words input next calls)
      (more-call words input run call) (more-from next calls)

  pub recorded-events : (calls : List Call) → length (events_of words input calls) ≡ (run_of words input calls).draft.recorded
  recorded-events calls = omega (arith, (more-from begin calls).recorded)

  pub errors-events : (calls : List Call) → errors_among (events_of words input calls) ≡ errors_of (run_of words input calls).draft.items
  errors-events calls = omega (arith, (more-from begin calls).errors)

  -- one call more
  from-more : (run : Run) (calls : List Call) (call : Call)
      → events_from words input run (calls ++ call ∷ []) ≡ events_from words input run calls ++ events_made words (seen input (fold (stepped words input) run calls)) call
  from-more run [] call = append-nil (events_made words (seen input run) call)
  from-more run (first ∷ calls) call =
      let next : Run = stepped words input run first in
      ap (λ es. events_made words (seen input run) first ++ es) (from-more next calls call)
      ∙ sym (append_assoc (events_made words (seen input run) first) (events_from words input next calls) (events_made words (seen input (fold (stepped words input) next calls)) call))

  pub events-more : (calls : List Call) (call : Call)
      → events_of words input (calls ++ call ∷ []) ≡ events_of words input calls ++ events_made words (seen input (run_of words input calls)) call
  events-more calls call = from-more begin calls call
