-- A walk with its errors aside.
use Rattle.std.proofs.Common.{◌≡◌, ◌∙◌, ℕ, ◌+◌, ◌<◌, true, false, List, [], ◌∷◌, ◌++◌, cond, length, length-append, take, drop, get_or, not, add-zero, arith, ap, sym, refl}
use Rattle.std.specs.Prelude.{sum_by}
use Rattle.std.proofs.Math.Seq.{take-append_seam, get_or-append_seam}
use Rattle.std.proofs.lemmas.List.{take-append-drop, drop_more}
use Rattle.std.proofs.lemmas.List.Elements.{filter-append}
use Rattle.std.proofs.lemmas.List.Filters.{length-filter_more}
use Rattle.std.proofs.lemmas.List.Sums.{sum_by-cons}
use Rattle.squawk_output.specs.Steps.{Step, Token, Enter, Exit, Error, is_enter, is_exit, is_error, count_of, openings, closings, eaten, without_errors}

-- a sum that gets nothing from errors
pub sum_by-without_errors : (f : Step → ℕ) → ((text : List ℕ) → f (Error text) ≡ 0) → (steps : List Step) → sum_by f (without_errors steps) ≡ sum_by f steps
sum_by-without_errors f none [] = refl
sum_by-without_errors f none (Token kind n ∷ steps) =
    omega (arith, sum_by-cons f (Token kind n) steps, sum_by-cons f (Token kind n) (without_errors steps), sum_by-without_errors f none steps)
sum_by-without_errors f none (Enter kind ∷ steps) =
    omega (arith, sum_by-cons f (Enter kind) steps, sum_by-cons f (Enter kind) (without_errors steps), sum_by-without_errors f none steps)
sum_by-without_errors f none (Exit ∷ steps) =
    omega (arith, sum_by-cons f Exit steps, sum_by-cons f Exit (without_errors steps), sum_by-without_errors f none steps)
sum_by-without_errors f none (Error text ∷ steps) = omega (arith, none text, sum_by-cons f (Error text) steps, sum_by-without_errors f none steps)

pub openings-without_errors : (steps : List Step) → openings (without_errors steps) ≡ openings steps
openings-without_errors steps = sum_by-without_errors (λ s. cond (is_enter s) 1 0) (λ text. refl) steps

pub closings-without_errors : (steps : List Step) → closings (without_errors steps) ≡ closings steps
closings-without_errors steps = sum_by-without_errors (λ s. cond (is_exit s) 1 0) (λ text. refl) steps

pub eaten-without_errors : (steps : List Step) → eaten (without_errors steps) ≡ eaten steps
eaten-without_errors steps = sum_by-without_errors count_of (λ text. refl) steps

-- how many of the first i steps are kept
abbrev pub kept : List Step → ℕ → ℕ
kept steps i = length (without_errors (take i steps))

module _ (steps : List Step) (i : ℕ) where
  split : without_errors steps ≡ without_errors (take i steps) ++ without_errors (drop i steps)
  split = ap without_errors (sym (take-append-drop i steps)) ∙ filter-append (λ s. not (is_error s)) (take i steps) (drop i steps)

  pub take-kept : take (kept steps i) (without_errors steps) ≡ without_errors (take i steps)
  take-kept = ap (take (kept steps i)) split ∙ take-append_seam (without_errors (take i steps)) (without_errors (drop i steps))

  pub openings-kept : openings (take (kept steps i) (without_errors steps)) ≡ openings (take i steps)
  openings-kept = ap openings take-kept ∙ openings-without_errors (take i steps)

  pub closings-kept : closings (take (kept steps i) (without_errors steps)) ≡ closings (take i steps)
  closings-kept = ap closings take-kept ∙ closings-without_errors (take i steps)

module _ (steps : List Step) (i : ℕ) (step : Step) (lt : i < length steps) (at : get_or steps i step ≡ step) where
  kept-cond : kept steps (i + 1) ≡ kept steps i + cond (not (is_error step)) 1 0
  kept-cond =
      length-filter_more (λ s. not (is_error s)) steps i step lt ∙ ap (λ s. kept steps i + cond (not (is_error s)) 1 0) at

  -- an error is none of the others
  pub kept-error : is_error step ≡ true → kept steps (i + 1) ≡ kept steps i
  kept-error error = kept-cond ∙ (ap (λ b. kept steps i + cond (not b) 1 0) error ∙ add-zero (kept steps i))

  module _ (other : is_error step ≡ false) where
    pub kept-more : kept steps (i + 1) ≡ kept steps i + 1
    kept-more = kept-cond ∙ ap (λ b. kept steps i + cond (not b) 1 0) other

    rest : without_errors (drop i steps) ≡ step ∷ without_errors (drop (i + 1) steps)
    rest =
        let behind = without_errors (drop (i + 1) steps) in
        ap without_errors (drop_more steps i step lt)
        ∙ (ap (λ s. without_errors (s ∷ drop (i + 1) steps)) at ∙ ap (λ b. cond (not b) (step ∷ behind) behind) other)

    around : without_errors steps ≡ without_errors (take i steps) ++ step ∷ without_errors (drop (i + 1) steps)
    around = split steps i ∙ ap (λ xs. without_errors (take i steps) ++ xs) rest

    -- any other step is the next of the others
    pub kept-at : get_or (without_errors steps) (kept steps i) step ≡ step
    kept-at =
        ap (λ xs. get_or xs (kept steps i) step) around ∙ get_or-append_seam (without_errors (take i steps)) step (without_errors (drop (i + 1) steps)) step

    pub kept-lt : kept steps i < length (without_errors steps)
    kept-lt = omega (arith, ap length around, length-append (without_errors (take i steps)) (step ∷ without_errors (drop (i + 1) steps)))
