-- Errors that are recorded, and errors that are refused.
use Rattle.std.proofs.Common.{◌≡◌, ◌∙◌, ℕ, true, Option, Some, List, [], ◌∷◌, arith, add-zero, ap, refl, subst}
use Rattle.std.specs.Prelude.{IsSome}
use Rattle.squawk_output.specs.Steps.{Error}
use Rattle.squawk_output.specs.Draft.{errors_of}
use Rattle.squawk_output.specs.Edits.{with_error}
use Rattle.squawk_parser.specs.Recorded.{Puts}
use Rattle.squawk_parser.specs.State.{State, IsSound, HasNotFailed, IsReason, Keeps, Records}
use Rattle.squawk_parser.specs.declared.parser.parse_error.ParseError.{ParseError}
use Rattle.squawk_parser.specs.declared.parser.parse_error.ParseError.TheVariants.{TooManyEvents}
use Rattle.squawk_parser.proofs.Soundness.{not_failed}

-- why an error is refused to a parser
abbrev pub IsReasonFor : State → List ℕ → ParseError → Type 0
IsReasonFor s msg reason = IsReason s.max_events s.max_errors s.draft.recorded (errors_of s.draft.items) true reason

-- there is one reason
same_reason : (s : State) (msg : List ℕ) (first : Option ParseError) (is reason : ParseError) → first ≡ Some is → first ≡ Some reason → IsReasonFor s msg is → IsReasonFor s msg reason
same_reason s msg first is reason e h why = let same : is ≡ reason = cc in subst (IsReasonFor s msg) same why

-- no error is put by a parser that fails
not_put : (old new : State) (msg : List ℕ) → Keeps old new → IsSome new.first_reason → new.position ≡ old.position → new.draft ≡ old.draft
    → (HasNotFailed old → (reason : ParseError) → new.first_reason ≡ Some reason → IsReasonFor old msg reason) → Puts (Error msg ∷ []) old new
not_put old new msg keeps failed same_position same why = record {
  keeps = keeps;
  position = same_position ∙ omega arith;
  draft = λ after. absurd (not_failed new after failed);
  stays = λ _. same;
  few = let is = ap (λ d. d.recorded) same in omega (arith, is);
  refused = λ goes reason refused. record { front = []; next = Error msg; rest = []; is = refl; why = simp add-zero (why goes reason refused) };
}

Keeps-refused : (s old : State) (is : ParseError) → s ≡ old → HasNotFailed old → IsSound (record s { first_reason = Some is }) → Keeps old (record s { first_reason = Some is })
Keeps-refused s old is e goes sound = rw (← e) record {
  input = refl;
  words = refl;
  limit = refl;
  forward = omega arith;
  max_events = refl;
  max_errors = refl;
  reason = λ failed. absurd (not_failed old goes (subst (λ t. IsSome t.first_reason) e failed));
  sound = sound;
}

-- a parser that fails for a reason that it has
pub Puts-refused : (s old : State) (msg : List ℕ) (is : ParseError) → s ≡ old → HasNotFailed old → IsReasonFor old msg is → IsSound (record s { first_reason = Some is })
    → Puts (Error msg ∷ []) old (record s { first_reason = Some is })
Puts-refused s old msg is e goes why sound =
    not_put old (record s { first_reason = Some is }) msg (Keeps-refused s old is e goes sound) refl (cc) (cc) (λ _ reason refused. same_reason old msg (Some is) is reason refl refused why)

-- a parser that goes on
pub Puts-error : (s old : State) (msg : List ℕ) → s ≡ old → HasNotFailed old → IsSound (record s { draft = with_error s.draft msg })
    → Puts (Error msg ∷ []) old (record s { draft = with_error s.draft msg })
Puts-error s old msg e goes sound = rw (← e) record {
  keeps = record { input = refl; words = refl; limit = refl; forward = omega arith; max_events = refl; max_errors = refl; reason = λ failed. refl; sound = sound };
  position = omega arith;
  draft = λ after. refl;
  stays = λ failed. absurd (not_failed old goes (subst (λ t. IsSome t.first_reason) e failed));
  few = omega arith;
  refused = λ before reason refused. absurd (let r = refused in cc);
}

-- one that had no room for an event
pub Puts-full : (old new : State) (msg : List ℕ) → Keeps old new → Records old new old.draft → IsSome new.first_reason → new.position ≡ old.position → new.draft ≡ old.draft
    → (HasNotFailed old → (old.draft.recorded ≡ old.max_events) × (new.first_reason ≡ Some TooManyEvents)) → Puts (Error msg ∷ []) old new
Puts-full old new msg keeps records failed same_position same full =
    not_put old new msg keeps failed same_position same
    (λ goes reason refused. same_reason old msg new.first_reason TooManyEvents reason (full goes).1 refused (records.refused goes TooManyEvents (full goes).1))
