-- Which steps of a walk receive trivia.
use Rattle.std.proofs.Common.{◌≡◌, ◌∙◌, ℕ, ◌+◌, ◌<◌, ◌≤◌, nat_lt, true, List, cond, length, take, drop, get_or, Some, arith, ap, sym, refl, ◌⊎◌, inl, inr}
use Rattle.std.specs.Prelude.{◌==◌}
use Rattle.std.proofs.lemmas.Bool.{eq-eqb, ne_eqb, lt-ltb, cases_lt}
use Rattle.std.proofs.lemmas.List.{take_all}
use Rattle.std.proofs.lemmas.List.Sums.{sum_by-take-drop, sum_by-take-le}
use Rattle.std.proofs.lemmas.Option.{slice_get-get_or}
use Rattle.squawk_table.specs.Sending.{receives_at, depth_behind}
use Rattle.squawk_output.specs.OneRoot.{StandsInOneRoot}
use Rattle.squawk_output.specs.Steps.{Step, Token, Enter, Exit, Error, is_enter, is_exit, openings, closings, without_errors}
use Rattle.squawk_table.proofs.NumberedSteps.{receives, is_receiver}
use Rattle.squawk_table.proofs.StepSpots.{openings-take_more, closings-take_more}
use Rattle.squawk_table.proofs.WithoutErrors.{kept, kept-more, kept-lt, openings-kept, closings-kept, openings-without_errors, closings-without_errors}

pub is_receiver-at : (steps : List Step) (i : ℕ) (step : Step) → i < length steps → get_or steps i step ≡ step → is_receiver steps i ≡ receives steps i (Some step)
is_receiver-at steps i step lt at = ap (receives steps i) (slice_get-get_or steps i step lt ∙ ap (λ s. Some s) at)

-- the closings after a spot are those that the beginning lacks
closings-drop : (steps : List Step) (i : ℕ) → closings (take i steps) + closings (drop i steps) ≡ closings steps
closings-drop steps i = sum_by-take-drop (λ s. cond (is_exit s) 1 0) steps i

openings-take : (steps : List Step) (i : ℕ) → openings (take i steps) ≤ openings steps
openings-take steps i = sum_by-take-le (λ s. cond (is_enter s) 1 0) steps i

module _ (steps : List Step) (root : StandsInOneRoot (without_errors steps)) where
  closed : closings steps ≡ openings steps
  closed = omega (arith, root.closed, closings-without_errors steps, openings-without_errors steps)

  -- inside of the root more is opened than closed
  inside : (i : ℕ) → 0 < kept steps i → kept steps i < length (without_errors steps) → closings (take i steps) < openings (take i steps)
  inside i positive lower = omega (arith, root.inside (kept steps i) positive lower, openings-kept steps i, closings-kept steps i)

  none_open : (i : ℕ) → kept steps i ≡ 0 → openings (take i steps) ≡ 0
  none_open i none = sym (openings-kept steps i) ∙ ap (λ k. openings (take k (without_errors steps))) none

  -- and behind it as much
  closed_behind : (i : ℕ) → length (without_errors steps) ≤ kept steps i → closings (take i steps) ≡ openings (take i steps)
  closed_behind i past =
      let whole = take_all (kept steps i) (without_errors steps) past in
      omega (arith, root.closed, ap closings whole, ap openings whole, openings-kept steps i, closings-kept steps i)

  all_closed : (i : ℕ) → length (without_errors steps) ≤ kept steps i → closings (take i steps) ≡ closings steps
  all_closed i past =
      sym (closings-kept steps i) ∙ (ap closings (take_all (kept steps i) (without_errors steps) past) ∙ closings-without_errors steps)

  -- so that the last closing is the last
  pub last_receives : (i : ℕ) → length (without_errors steps) ≤ kept steps (i + 1) → (closings (drop (i + 1) steps) == 0) ≡ true
  last_receives i past =
      eq-eqb (closings (drop (i + 1) steps)) 0 (omega (arith, all_closed (i + 1) past, closings-drop steps (i + 1)))

  module _ (i depth : ℕ) (lt : i < length steps) (open_now : closings (take i steps) + depth ≡ openings (take i steps)) where
    module _ (kind : ℕ) (at : get_or steps i (Enter kind) ≡ Enter kind) where
      later_opening : (0 < kept steps i) ⊎ (kept steps i ≤ 0) → nat_lt 0 depth ≡ nat_lt 0 (openings (take i steps))
      later_opening (inl positive) =
          let more = inside i positive (kept-lt steps i (Enter kind) lt at refl) in
          lt-ltb 0 depth (omega arith) ∙ sym (lt-ltb 0 (openings (take i steps)) (omega arith))
      later_opening (inr none) =
          let zero = none_open i (omega arith) in
          let closed : depth ≡ 0 = omega arith in
          ap (nat_lt 0) closed ∙ sym (ap (nat_lt 0) zero)

    module _ (at : get_or steps i Exit ≡ Exit) where
      counts : closings (take (i + 1) steps) + depth ≡ openings (take (i + 1) steps) + 1
      counts = omega (arith, closings-take_more steps i Exit lt at, openings-take_more steps i Exit lt at)

      more_kept : kept steps (i + 1) ≡ kept steps i + 1
      more_kept = kept-more steps i Exit lt at refl

      last_closing : (kept steps (i + 1) < length (without_errors steps)) ⊎ (length (without_errors steps) ≤ kept steps (i + 1))
          → ((depth == 1) ≡ (closings (drop (i + 1) steps) == 0)) × (1 ≤ depth)
      last_closing (inl more) =
          let opened = inside (i + 1) (omega (arith, more_kept)) more in
          let deep : 1 < depth = omega (arith, counts) in
          let left : 0 < closings (drop (i + 1) steps) = omega (arith, closings-drop steps (i + 1), openings-take steps (i + 1), closed) in
          (ne_eqb depth 1 (λ e. omega arith) ∙ sym (ne_eqb (closings (drop (i + 1) steps)) 0 (λ e. omega arith)), omega arith)
      last_closing (inr all) =
          let last : depth ≡ 1 = omega (arith, counts, closed_behind (i + 1) all) in
          (eq-eqb depth 1 last ∙ sym (last_receives i all), omega arith)

      exit_cases : ((depth == 1) ≡ (closings (drop (i + 1) steps) == 0)) × (1 ≤ depth)
      exit_cases = last_closing (cases_lt (kept steps (i + 1)) (length (without_errors steps)))

    -- the number of open nodes tells whether a step receives
    pub receives_at-receiver : (step : Step) → get_or steps i step ≡ step → receives_at depth step ≡ is_receiver steps i
    receives_at-receiver (Token kind n) at = sym (is_receiver-at steps i (Token kind n) lt at)
    receives_at-receiver (Enter kind) at = later_opening kind at (cases_lt 0 (kept steps i)) ∙ sym (is_receiver-at steps i (Enter kind) lt at)
    receives_at-receiver Exit at = (exit_cases at).0 ∙ sym (is_receiver-at steps i Exit lt at)
    receives_at-receiver (Error text) at = sym (is_receiver-at steps i (Error text) lt at)

    -- and it is known behind the step
    pub open_behind : (step : Step) → get_or steps i step ≡ step → closings (take (i + 1) steps) + depth_behind depth step ≡ openings (take (i + 1) steps)
    open_behind (Token kind n) at = omega (arith, closings-take_more steps i (Token kind n) lt at, openings-take_more steps i (Token kind n) lt at)
    open_behind (Enter kind) at = omega (arith, closings-take_more steps i (Enter kind) lt at, openings-take_more steps i (Enter kind) lt at)
    open_behind Exit at = omega (arith, counts at, (exit_cases at).1)
    open_behind (Error text) at = omega (arith, closings-take_more steps i (Error text) lt at, openings-take_more steps i (Error text) lt at)
