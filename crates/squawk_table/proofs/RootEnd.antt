-- The end of a walk that stands in one root.
use Rattle.std.proofs.Common.{◌≡◌, ◌∙◌, ℕ, zero, suc, ◌+◌, ◌<◌, ◌≤◌, true, false, List, [], ◌∷◌, cond, length, take, get_or, arith, add-one, ap, refl, subst, sym, inl, inr}
use Rattle.std.proofs.lemmas.Bool.{cases_lt, or_left, or_right}
use Rattle.std.proofs.lemmas.List.{take_all, get_or_default}
use Rattle.squawk_table.specs.RawTable.{RawToken}
use Rattle.squawk_table.specs.Sent.{past_trivia, after_input}
use Rattle.squawk_output.specs.OneRoot.{BeginsWithEnter, StandsInOneRoot}
use Rattle.squawk_output.specs.Steps.{Step, Token, Enter, Exit, Error, is_enter, is_exit, is_error, count_of, openings, closings, eaten, without_errors}
use Rattle.squawk_table.proofs.NumberedSteps.{eaten_before, is_receiver, is_received}
use Rattle.squawk_table.proofs.Received.{left_before, behind, is_received-same}
use Rattle.squawk_table.proofs.Receivers.{is_receiver-at, last_receives}
use Rattle.squawk_table.proofs.StepSpots.{eaten-take_more, openings-take_more, closings-take_more}
use Rattle.squawk_table.proofs.WithoutErrors.{kept, kept-error, kept-more, kept-at, kept-lt}

-- the first step of a walk that begins with an opening
first_step : (steps : List Step) (step : Step) → get_or steps 0 step ≡ step → BeginsWithEnter steps → is_enter step ≡ true
first_step [] step at begins = absurd begins
first_step (Enter kind ∷ steps) step at begins = ap is_enter (sym at)
first_step (Token kind n ∷ steps) step at begins = absurd begins
first_step (Exit ∷ steps) step at begins = absurd begins
first_step (Error text ∷ steps) step at begins = absurd begins

length-root : (steps : List Step) → BeginsWithEnter steps → 0 < length steps
length-root [] begins = absurd begins
length-root (x ∷ steps) begins = omega arith

-- the last step is a closing
last_step : (steps : List Step) → StandsInOneRoot steps → (last : ℕ) → last + 1 ≡ length steps → (step : Step) → get_or steps last step ≡ step → is_exit step ≡ false → ⊥
last_step steps root last end step at other =
    let lt : last < length steps = omega arith in
    let whole : take (last + 1) steps ≡ steps = take_all (last + 1) steps (omega arith) in
    let none : cond {A = ℕ} (is_exit step) 1 0 ≡ 0 = ap (λ b. cond {A = ℕ} b 1 0) other in
    let same : closings (take last steps) ≡ closings steps = omega (arith, closings-take_more steps last step lt at, ap closings whole) in
    let opened : openings (take last steps) + cond (is_enter step) 1 0 ≡ openings steps = omega (arith, openings-take_more steps last step lt at, ap openings whole) in
    elim (cases_lt 0 last) [
      | inl positive ↦ omega (arith, root.inside last positive lt, root.closed)
      | inr none_before ↦
          let e : last ≡ 0 = omega arith in
          let first : cond {A = ℕ} (is_enter step) 1 0 ≡ 1 = ap (λ b. cond {A = ℕ} b 1 0) (first_step steps step (subst (λ i. get_or steps i step ≡ step) e at) root.begins) in
          omega (arith, root.closed, ap (λ i. closings (take i steps)) e)
    ]

-- ---- with errors

module _ (steps : List Step) (root : StandsInOneRoot (without_errors steps)) where
  module _ (i : ℕ) (step : Step) (lt : i < length steps) (at : get_or steps i step ≡ step) (past : length (without_errors steps) ≤ kept steps (i + 1)) where
    -- a step that isn't an error, and behind which only errors stand, closes the root
    closes_root : is_error step ≡ false → is_exit step ≡ false → ⊥
    closes_root other =
        let low = kept-lt steps i step lt at other in
        last_step (without_errors steps) root (kept steps i) (omega (arith, kept-more steps i step lt at other)) step (kept-at steps i step lt at other)

    same_eaten : count_of step ≡ 0 → eaten_before steps i ≡ eaten_before steps (i + 1)
    same_eaten none = omega (arith, eaten-take_more steps i step lt at)

  one_more : (i : ℕ) (step : Step) → i < length steps → get_or steps i step ≡ step → length (without_errors steps) ≤ kept steps (i + 1)
      → (length (without_errors steps) ≤ kept steps i → is_received steps (eaten_before steps i) i ≡ true) → is_received steps (eaten_before steps (i + 1)) (i + 1) ≡ true
  one_more i (Token kind n) lt at past before = absurd (closes_root i (Token kind n) lt at past refl refl)
  one_more i (Enter kind) lt at past before = absurd (closes_root i (Enter kind) lt at past refl refl)
  one_more i Exit lt at past before =
      let same = same_eaten i Exit lt at past refl in
      let c = eaten_before steps (i + 1) in
      let receiver = is_receiver-at steps i Exit lt at ∙ last_receives steps root i past in
      is_received-same steps c i same ∙ or_left (is_receiver steps i) (is_received steps c i) receiver
  one_more i (Error text) lt at past before =
      let same = same_eaten i (Error text) lt at past refl in
      let c = eaten_before steps (i + 1) in
      let received : is_received steps c i ≡ true =
      subst (λ c. is_received steps c i ≡ true) same (before (omega (arith, kept-error steps i (Error text) lt at refl))) in
      is_received-same steps c i same ∙ or_right (is_receiver steps i) (is_received steps c i) received

  -- behind all steps but errors the trivia was received that was left
  end_received : (i : ℕ) → i ≤ length steps → length (without_errors steps) ≤ kept steps i → is_received steps (eaten_before steps i) i ≡ true
  end_received zero le past = absurd (omega (arith, length-root (without_errors steps) root.begins))
  end_received (suc i) le past =
      let step = get_or steps i Exit in
      let at = get_or_default steps i step Exit (omega arith) in
      subst (λ k. is_received steps (eaten_before steps k) k ≡ true) (add-one i)
      (one_more i step (omega arith) at (rw (add-one i) past) (end_received i (omega arith)))

  -- so that none is left in front of the next token of the input
  pub left_before-all : (raw : List RawToken) → left_before raw steps (length steps) ≡ past_trivia (after_input (eaten steps) raw)
  left_before-all raw =
      let whole : take (length steps) steps ≡ steps = take_all (length steps) steps (omega arith) in
      let received = end_received (length steps) (omega arith) (omega (arith, ap (λ xs. length (without_errors xs)) whole)) in
      ap (behind raw (eaten_before steps (length steps))) received ∙ ap (λ s. past_trivia (after_input (eaten s) raw)) whole
