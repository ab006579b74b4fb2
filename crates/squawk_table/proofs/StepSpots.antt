-- The steps before a spot of a walk, and one more.
use Rattle.std.proofs.Common.{◌≡◌, ◌∙◌, ℕ, ◌+◌, ◌<◌, List, ◌∷◌, cond, length, take, drop, get_or, arith, ap, sym}
use Rattle.std.proofs.lemmas.List.{drop_more, length-drop}
use Rattle.std.proofs.lemmas.List.Sums.{sum_by_more}
use Rattle.squawk_output.specs.Steps.{Step, is_enter, is_exit, count_of, openings, closings, eaten}

-- i steps were read and these are left, of which one is at hand
module _ (steps left behind : List Step) (i : ℕ) (step : Step) (rest : left ≡ drop i steps) (next : left ≡ step ∷ behind) where
  all : drop i steps ≡ step ∷ behind
  all = sym rest ∙ next

  pub hand_lt : i < length steps
  hand_lt = omega (arith, ap length all, length-drop i steps)

  split : get_or steps i step ∷ drop (i + 1) steps ≡ step ∷ behind
  split = sym (drop_more steps i step hand_lt) ∙ all

  pub hand_at : get_or steps i step ≡ step
  hand_at = let e = split in cc

  pub hand_behind : behind ≡ drop (i + 1) steps
  hand_behind = let e = split in cc

module _ (steps : List Step) (i : ℕ) (step : Step) (lt : i < length steps) (at : get_or steps i step ≡ step) where
  pub eaten-take_more : eaten (take (i + 1) steps) ≡ eaten (take i steps) + count_of step
  eaten-take_more = sum_by_more count_of steps i step lt ∙ ap (λ s. eaten (take i steps) + count_of s) at

  pub openings-take_more : openings (take (i + 1) steps) ≡ openings (take i steps) + cond (is_enter step) 1 0
  openings-take_more = sum_by_more (λ s. cond (is_enter s) 1 0) steps i step lt ∙ ap (λ s. openings (take i steps) + cond (is_enter s) 1 0) at

  pub closings-take_more : closings (take (i + 1) steps) ≡ closings (take i steps) + cond (is_exit step) 1 0
  closings-take_more = sum_by_more (λ s. cond (is_exit s) 1 0) steps i step lt ∙ ap (λ s. closings (take i steps) + cond (is_exit s) 1 0) at
