-- The sent list, step by step.
use Rattle.std.proofs.Common.{◌≡◌, ◌∙◌, ℕ, ◌+◌, ◌<◌, List, [], ◌∷◌, ◌++◌, Some, map, length, get_or, add-one, ap}
use Rattle.std.proofs.lemmas.Option.{slice_get-get_or}
use Rattle.squawk_table.specs.RawTable.{RawToken}
use Rattle.squawk_table.specs.Sent.{sent_raw, sent_step}
use Rattle.squawk_output.specs.Steps.{Step}
use Rattle.squawk_table.specs.declared.shortcuts.str_step.OwnedStep.{OwnedStep}
use Rattle.squawk_table.proofs.NumberedSteps.{eaten_before, trivia_before, sent_steps, sent_below}

-- what is sent before step i, with the trivia before it
abbrev pub sent_to : List RawToken → List Step → ℕ → List OwnedStep
sent_to raw steps i = sent_below raw steps i ++ map sent_raw (trivia_before raw steps i)

-- what is sent for it
abbrev pub sent_for : List RawToken → List Step → ℕ → Step → OwnedStep
sent_for raw steps i step = sent_step raw (eaten_before steps i) (sent_to raw steps i) step

-- one more step
pub sent_below-more : (raw : List RawToken) (steps : List Step) (i : ℕ) (step : Step) → i < length steps → get_or steps i step ≡ step
    → sent_below raw steps (i + 1) ≡ sent_to raw steps i ++ sent_for raw steps i step ∷ []
sent_below-more raw steps i step lt at =
    let is = slice_get-get_or steps i step lt ∙ ap (λ s. Some s) at in
    ap (sent_below raw steps) (add-one i) ∙ ap (λ s. sent_to raw steps i ++ sent_steps raw (eaten_before steps i) (sent_to raw steps i) s) is
