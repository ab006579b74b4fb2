-- What moving errors before closings keeps.
use Rattle.std.proofs.Common.{◌≡◌, ◌∙◌, ℕ, suc, List, [], ◌∷◌, ◌++◌, length, drop, filter, ap, sym, subst, refl, if◌then◌else◌}
use Rattle.squawk_table.specs.ParserInput.{Entry}
use Rattle.squawk_table.specs.Sent.{leading_errors, errors_moved}
use Rattle.squawk_table.specs.Shape.{IsOver}
use Rattle.squawk_output.specs.Steps.{Step, Token, Enter, Exit, Error, is_error, eaten, without_errors}
use Rattle.squawk_table.proofs.WithoutErrors.{eaten-without_errors}

-- the errors at the front stay there
leading_first : (steps : List Step) → leading_errors steps ++ drop (length (leading_errors steps)) (errors_moved steps) ≡ errors_moved steps
leading_first [] = refl
leading_first (Token kind n ∷ steps) = refl
leading_first (Enter kind ∷ steps) = refl
leading_first (Exit ∷ steps) = refl
leading_first (Error text ∷ steps) = ap (λ xs. Error text ∷ xs) (leading_first steps)

-- what errors_moved leaves behind them
abbrev behind : List Step → List Step
behind steps = drop (length (leading_errors steps)) (errors_moved steps)

-- What a list of steps gives stays where it is the same for an error before a closing and behind it, and goes on from
-- that of the steps behind the first.
module _ {X : Type 0} (f : List Step → X) (across : (text : List ℕ) (steps : List Step) → f (Error text ∷ Exit ∷ steps) ≡ f (Exit ∷ Error text ∷ steps))
    (goes_on : (step : Step) (xs ys : List Step) → f xs ≡ f ys → f (step ∷ xs) ≡ f (step ∷ ys)) where
  across-leading : (steps rest : List Step) → f (leading_errors steps ++ Exit ∷ rest) ≡ f (Exit ∷ (leading_errors steps ++ rest))
  across-leading [] rest = refl
  across-leading (Token kind n ∷ steps) rest = refl
  across-leading (Enter kind ∷ steps) rest = refl
  across-leading (Exit ∷ steps) rest = refl
  across-leading (Error text ∷ steps) rest =
      goes_on (Error text) (leading_errors steps ++ Exit ∷ rest) (Exit ∷ (leading_errors steps ++ rest)) (across-leading steps rest)
      ∙ across text (leading_errors steps ++ rest)

  same-moved : (steps : List Step) → f (errors_moved steps) ≡ f steps
  same-moved [] = refl
  same-moved (Token kind n ∷ steps) = goes_on (Token kind n) (errors_moved steps) steps (same-moved steps)
  same-moved (Enter kind ∷ steps) = goes_on (Enter kind) (errors_moved steps) steps (same-moved steps)
  same-moved (Exit ∷ steps) =
      across-leading steps (behind steps)
      ∙ goes_on Exit (leading_errors steps ++ behind steps) steps (ap f (leading_first steps) ∙ same-moved steps)
  same-moved (Error text ∷ steps) = goes_on (Error text) (errors_moved steps) steps (same-moved steps)

pub without_errors-moved : (steps : List Step) → without_errors (errors_moved steps) ≡ without_errors steps
without_errors-moved steps = same-moved without_errors (λ text rest. refl) goes_on steps
  where
    goes_on : (step : Step) (xs ys : List Step) → without_errors xs ≡ without_errors ys → without_errors (step ∷ xs) ≡ without_errors (step ∷ ys)
    goes_on (Token kind n) xs ys e = ap (λ zs. Token kind n ∷ zs) e
    goes_on (Enter kind) xs ys e = ap (λ zs. Enter kind ∷ zs) e
    goes_on Exit xs ys e = ap (λ zs. Exit ∷ zs) e
    goes_on (Error text) xs ys e = e

pub errors-moved : (steps : List Step) → filter is_error (errors_moved steps) ≡ filter is_error steps
errors-moved steps = same-moved (filter is_error) (λ text rest. refl) goes_on steps
  where
    goes_on : (step : Step) (xs ys : List Step) → filter is_error xs ≡ filter is_error ys → filter is_error (step ∷ xs) ≡ filter is_error (step ∷ ys)
    goes_on step xs ys e = ap (λ zs. if is_error step then step ∷ zs else zs) e

pub length-moved : (steps : List Step) → length (errors_moved steps) ≡ length steps
length-moved steps = same-moved length (λ text rest. refl) (λ step xs ys e. ap suc e) steps

-- ---- errors eat nothing

pub eaten-moved : (steps : List Step) → eaten (errors_moved steps) ≡ eaten steps
eaten-moved steps = sym (eaten-without_errors (errors_moved steps)) ∙ (ap eaten (without_errors-moved steps) ∙ eaten-without_errors steps)

pub IsOver-without : (steps : List Step) (input : List Entry) → IsOver steps input → IsOver (without_errors steps) input
IsOver-without [] input over = tt
IsOver-without (Token kind n ∷ steps) input over = (over.0, IsOver-without steps (drop n input) over.1)
IsOver-without (Enter kind ∷ steps) input over = IsOver-without steps input over
IsOver-without (Exit ∷ steps) input over = IsOver-without steps input over
IsOver-without (Error text ∷ steps) input over = IsOver-without steps input over

pub IsOver-with : (steps : List Step) (input : List Entry) → IsOver (without_errors steps) input → IsOver steps input
IsOver-with [] input over = tt
IsOver-with (Token kind n ∷ steps) input over = (over.0, IsOver-with steps (drop n input) over.1)
IsOver-with (Enter kind ∷ steps) input over = IsOver-with steps input over
IsOver-with (Exit ∷ steps) input over = IsOver-with steps input over
IsOver-with (Error text ∷ steps) input over = IsOver-with steps input over

pub IsOver-moved : (steps : List Step) (input : List Entry) → IsOver steps input → IsOver (errors_moved steps) input
IsOver-moved steps input over =
    IsOver-with (errors_moved steps) input (subst (λ xs. IsOver xs input) (sym (without_errors-moved steps)) (IsOver-without steps input over))
