-- Walks over an input, in parts.
use Rattle.std.proofs.Common.{◌≡◌, ◌∙◌, ℕ, ◌≤◌, List, [], ◌∷◌, ◌++◌, length, drop, arith, ap, sym, subst, refl}
use Rattle.std.proofs.lemmas.List.{drop-drop, length-drop}
use Rattle.std.proofs.lemmas.List.Sums.{sum_by-cons}
use Rattle.squawk_table.specs.ParserInput.{Entry}
use Rattle.squawk_table.specs.Shape.{AreOneToken, IsOver}
use Rattle.squawk_output.specs.Steps.{Step, Token, Enter, Exit, Error, count_of, eaten}

-- the tokens behind those that one token and then other steps eat
drop-token : (kind n : ℕ) (steps : List Step) (input : List Entry) → drop (eaten steps) (drop n input) ≡ drop (eaten (Token kind n ∷ steps)) input
drop-token kind n steps input = drop-drop (eaten steps) n input ∙ ap (λ k. drop k input) (sym (sum_by-cons count_of (Token kind n) steps))

-- a step that eats nothing leaves the others' count
pub eaten-other : (step : Step) (steps : List Step) → count_of step ≡ 0 → eaten (step ∷ steps) ≡ eaten steps
eaten-other step steps none = omega (arith, sum_by-cons count_of step steps)

-- a walk over an input eats no more tokens than the input has
pub eaten-le : (steps : List Step) (input : List Entry) → IsOver steps input → eaten steps ≤ length input
eaten-le [] input over = omega arith
eaten-le (Token kind n ∷ steps) input over =
    omega (arith, eaten-le steps (drop n input) over.1, over.0.there, length-drop n input, sum_by-cons count_of (Token kind n) steps)
eaten-le (Enter kind ∷ steps) input over = omega (arith, eaten-le steps input over, eaten-other (Enter kind) steps refl)
eaten-le (Exit ∷ steps) input over = omega (arith, eaten-le steps input over, eaten-other Exit steps refl)
eaten-le (Error text ∷ steps) input over = omega (arith, eaten-le steps input over, eaten-other (Error text) steps refl)

-- two walks one after the other, the second over what the first leaves
pub IsOver-append : (xs ys : List Step) (input : List Entry) → IsOver xs input → IsOver ys (drop (eaten xs) input) → IsOver (xs ++ ys) input
IsOver-append [] ys input front back = back
IsOver-append (Token kind n ∷ xs) ys input front back =
    (front.0, IsOver-append xs ys (drop n input) front.1 (subst (IsOver ys) (sym (drop-token kind n xs input)) back))
IsOver-append (Enter kind ∷ xs) ys input front back =
    IsOver-append xs ys input front (subst (λ k. IsOver ys (drop k input)) (eaten-other (Enter kind) xs refl) back)
IsOver-append (Exit ∷ xs) ys input front back =
    IsOver-append xs ys input front (subst (λ k. IsOver ys (drop k input)) (eaten-other Exit xs refl) back)
IsOver-append (Error text ∷ xs) ys input front back =
    IsOver-append xs ys input front (subst (λ k. IsOver ys (drop k input)) (eaten-other (Error text) xs refl) back)

-- the first part of a walk is over the same input
pub IsOver-front : (xs ys : List Step) (input : List Entry) → IsOver (xs ++ ys) input → IsOver xs input
IsOver-front [] ys input over = tt
IsOver-front (Token kind n ∷ xs) ys input over = (over.0, IsOver-front xs ys (drop n input) over.1)
IsOver-front (Enter kind ∷ xs) ys input over = IsOver-front xs ys input over
IsOver-front (Exit ∷ xs) ys input over = IsOver-front xs ys input over
IsOver-front (Error text ∷ xs) ys input over = IsOver-front xs ys input over

-- and the rest is over what the first part leaves
pub IsOver-back : (xs ys : List Step) (input : List Entry) → IsOver (xs ++ ys) input → IsOver ys (drop (eaten xs) input)
IsOver-back [] ys input over = over
IsOver-back (Token kind n ∷ xs) ys input over = subst (IsOver ys) (drop-token kind n xs input) (IsOver-back xs ys (drop n input) over.1)
IsOver-back (Enter kind ∷ xs) ys input over =
    subst (λ k. IsOver ys (drop k input)) (sym (eaten-other (Enter kind) xs refl)) (IsOver-back xs ys input over)
IsOver-back (Exit ∷ xs) ys input over =
    subst (λ k. IsOver ys (drop k input)) (sym (eaten-other Exit xs refl)) (IsOver-back xs ys input over)
IsOver-back (Error text ∷ xs) ys input over =
    subst (λ k. IsOver ys (drop k input)) (sym (eaten-other (Error text) xs refl)) (IsOver-back xs ys input over)

-- ---- one more step at the end

pub IsOver-token_last : (steps : List Step) (input : List Entry) (kind n : ℕ) → IsOver steps input → AreOneToken n (drop (eaten steps) input)
    → IsOver (steps ++ Token kind n ∷ []) input
IsOver-token_last steps input kind n over one = IsOver-append steps (Token kind n ∷ []) input over (one, tt)

pub IsOver-exit_last : (steps : List Step) (input : List Entry) → IsOver steps input → IsOver (steps ++ Exit ∷ []) input
IsOver-exit_last steps input over = IsOver-append steps (Exit ∷ []) input over tt

pub IsOver-error_last : (steps : List Step) (input : List Entry) (text : List ℕ) → IsOver steps input → IsOver (steps ++ Error text ∷ []) input
IsOver-error_last steps input text over = IsOver-append steps (Error text ∷ []) input over tt
