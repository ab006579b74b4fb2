-- Which event of a run the limits of its parser refuse.
use Rattle.std.proofs.Common.{◌≡◌, ◌≢◌, ◌∙◌, inl, inr, ℕ, zero, suc, ◌+◌, ◌<◌, ◌≤◌, Bool, true, false, Option, Some, None, List, [], ◌∷◌, ◌++◌, length, map, take, arith, ap, sym, refl, subst, append_assoc, length-append}
use Rattle.std.proofs.lemmas.Bool.{cases_lt, le-ltb, lt-ltb}
use Rattle.std.proofs.lemmas.List.{length-map, map-append, take-append-le, take_all, take_at}
use Rattle.squawk_output.specs.Steps.{Step, errors_in, is_error}
use Rattle.squawk_output.specs.Draft.{Draft, errors_of}
use Rattle.squawk_parser.specs.State.{State, Changes, HasNotFailed, IsReason}
use Rattle.squawk_parser.specs.declared.parser.parse_error.ParseError.{ParseError}
use Rattle.squawk_parser.specs.declared.parser.parse_error.ParseError.TheVariants.{OutOfMemory, TooManyEvents, TooManyErrors}
use Rattle.squawk_parser.proofs.RecordedSteps.{Refuses}
use Rattle.squawk_script.specs.Events.{errors_among, refusal}
use Rattle.squawk_script.specs.Slots.{FailsAt}
use Rattle.squawk_script.proofs.Events.{errors_among-append, errors_among-cons, errors_among-steps}

-- ---- what a refusal means

module _ (events errors : ℕ) (es : List Bool) where
  -- of the events that there is room for, more are errors than may be; they are not, but there are more events; there are none
  abbrev pub Means : Option ParseError → Type 0
  Means (Some TooManyErrors) = errors < errors_among (take events es)
  Means (Some TooManyEvents) = (errors_among (take events es) ≤ errors) × (events < length es)
  Means (Some OutOfMemory) = ⊥
  Means None = (errors_among (take events es) ≤ errors) × (length es ≤ events)

  pub is-errors : Means (Some TooManyErrors) → refusal events errors es ≡ Some TooManyErrors
  is-errors many = rw (lt-ltb errors (errors_among (take events es)) many) refl

  pub is-events : Means (Some TooManyEvents) → refusal events errors es ≡ Some TooManyEvents
  is-events (few, more) = rw (le-ltb errors (errors_among (take events es)) few, lt-ltb events (length es) more) refl

  pub is-none : Means None → refusal events errors es ≡ None
  is-none (few, fit) = rw (le-ltb errors (errors_among (take events es)) few, le-ltb events (length es) fit) refl

  pub means : (answer : Option ParseError) → refusal events errors es ≡ answer → Means answer
  means answer is = subst Means is (elim (cases_lt errors (errors_among (take events es))) [
    | inl many ↦ subst Means (sym (is-errors many)) many
    | inr few ↦ elim (cases_lt events (length es)) [
      | inl more ↦ subst Means (sym (is-events (few, more))) (few, more)
      | inr fit ↦ subst Means (sym (is-none (few, fit))) (few, fit)
    ]
  ])

-- ---- some events, and more behind them

-- the errors among the first of some events are errors among the first of all
more-errors-behind : (n : ℕ) (xs ys : List Bool) → errors_among (take n xs) ≤ errors_among (take n (xs ++ ys))
more-errors-behind zero xs ys = omega arith
more-errors-behind (suc n) [] ys = omega arith
more-errors-behind (suc n) (x ∷ xs) ys = omega (arith, more-errors-behind n xs ys, errors_among-cons x (take n xs), errors_among-cons x (take n (xs ++ ys)))

-- what refuses the first events refuses all
pub refusal-append : (events errors : ℕ) (xs ys : List Bool) (reason : ParseError) → refusal events errors xs ≡ Some reason → refusal events errors (xs ++ ys) ≡ Some reason
refusal-append events errors xs ys reason is = cases reason (means events errors xs (Some reason) is)
  where
    cases : (r : ParseError) → Means events errors xs (Some r) → refusal events errors (xs ++ ys) ≡ Some r
    cases TooManyErrors many = is-errors events errors (xs ++ ys) (omega (arith, many, more-errors-behind events xs ys))
    cases TooManyEvents (few, more) =
        let same : take events (xs ++ ys) ≡ take events xs = take-append-le events xs ys (omega (arith, more)) in
        is-events events errors (xs ++ ys) (omega (arith, few, ap errors_among same), omega (arith, more, length-append xs ys))
    cases OutOfMemory never = absurd never

-- an event that finds no room, where those in front of it found room
module _ (events errors : ℕ) (front : List Bool) (next : Bool) (rest : List Bool) where
  pub refused-at : (reason : ParseError) → reason ≢ OutOfMemory → IsReason events errors (length front) (errors_among front) next reason
      → refusal events errors (front ++ next ∷ rest) ≡ Some reason
  refused-at TooManyEvents limit (full, fit) =
      let first : take events (front ++ next ∷ rest) ≡ front = take_at front (next ∷ rest) events full in
      is-events events errors (front ++ next ∷ rest) (omega (arith, fit, ap errors_among first), omega (arith, full, length-append front (next ∷ rest)))
  refused-at TooManyErrors limit (wrong, full, lt) =
      let upto : List Bool = front ++ next ∷ [] in
      let first : take events upto ≡ upto = take_all events upto (omega (arith, lt, length-append front (next ∷ []))) in
      let one : errors_among upto ≡ errors_among front + 1 = errors_among-append front (next ∷ []) ∙ ap (λ b. errors_among front + errors_among (b ∷ [])) wrong in
      ap (refusal events errors) (sym (append_assoc front (next ∷ []) rest))
      ∙ is-errors events errors (upto ++ rest) (omega (arith, full, one, ap errors_among first, more-errors-behind events upto rest))
  refused-at OutOfMemory limit why = absurd (limit refl)

-- one of the errors, behind as many others
pub record HasError (n : ℕ) (es : List Bool) : Type 0 where
  pub front : List Bool
  pub rest : List Bool
  pub is : es ≡ front ++ true ∷ rest
  pub behind : errors_among front ≡ n

pub error-at : (n : ℕ) (es : List Bool) → n < errors_among es → HasError n es
error-at n [] lt = absurd (omega (arith, lt))
error-at n (false ∷ es) lt =
    let e = error-at n es (omega (arith, lt, errors_among-cons false es)) in
    record { front = false ∷ e.front; rest = e.rest; is = ap (λ xs. false ∷ xs) e.is; behind = omega (arith, e.behind, errors_among-cons false e.front) }
error-at zero (true ∷ es) lt = record { front = []; rest = es; is = refl; behind = refl }
error-at (suc n) (true ∷ es) lt =
    let e = error-at n es (omega (arith, lt, errors_among-cons true es)) in
    record { front = true ∷ e.front; rest = e.rest; is = ap (λ xs. true ∷ xs) e.is; behind = omega (arith, e.behind, errors_among-cons true e.front) }

-- ---- what a parser is refused

module _ (old new : State) where
  -- one of its steps
  pub steps-fail : (steps : List Step) → Refuses steps old new → HasNotFailed old → FailsAt old new (map is_error steps)
  steps-fail steps refuses goes before count errors reason fails known =
      let r = refuses goes reason fails in
      let front : List Bool = before ++ map is_error r.front in
      let long : length front ≡ old.draft.recorded + length r.front =
      omega (arith, count, length-append before (map is_error r.front), length-map r.front is_error) in
      let wrong : errors_among front ≡ errors_of old.draft.items + errors_in r.front =
      omega (arith, errors, errors_among-append before (map is_error r.front), errors_among-steps r.front) in
      let all : before ++ map is_error steps ≡ front ++ is_error r.next ∷ map is_error r.rest =
      ap (λ xs. before ++ map is_error xs) r.is
      ∙ (ap (λ es. before ++ es) (map-append is_error r.front (r.next ∷ r.rest)) ∙ sym (append_assoc before (map is_error r.front) (is_error r.next ∷ map is_error r.rest))) in
      ap (refusal old.max_events old.max_errors) all
      ∙ refused-at old.max_events old.max_errors front (is_error r.next) (map is_error r.rest) reason known (rw (long, wrong) r.why)

  -- none of its events
  pub changes-fails : (edited : Draft) → Changes old new edited → HasNotFailed old → FailsAt old new []
  changes-fails edited changes goes before count errors reason fails known =
      let same : new.first_reason ≡ old.first_reason = ap (λ s. s.first_reason) (changes.goes goes) in
      absurd (let p = sym fails ∙ (same ∙ goes) in cc)
