-- What contracts see of the steps that a sink takes.
use Rattle.std.specs.Prelude.{Bool, true, false, List, ◌∷◌, Option, Some, None}
use Rattle.std.specs.Str.{chars}
use Rattle.squawk_output.specs.Steps.{Step, Exit}
use Rattle.squawk_output.specs.StepViews.{step_of}
use Rattle.squawk_output.specs.declared.output.step.Step.{Step as Lent}
use Rattle.squawk_table.specs.declared.shortcuts.str_step.StrStep.{StrStep}
use Rattle.squawk_table.specs.declared.shortcuts.str_step.StrStep.TheVariants as borrowed
use Rattle.squawk_table.specs.declared.shortcuts.str_step.OwnedStep.{OwnedStep}
use Rattle.squawk_table.specs.declared.shortcuts.str_step.OwnedStep.TheVariants as owned

-- steps behind a closing that is held back, if one is
abbrev pub behind_closing : Bool → List Step → List Step
behind_closing true steps = Exit ∷ steps
behind_closing false steps = steps

-- steps behind one that is pending, if one is
abbrev pub behind_pending : Option Lent → List Step → List Step
behind_pending (Some step) steps = step_of step ∷ steps
behind_pending None steps = steps

-- a step that borrows its text, as the step that owns it
abbrev pub owned_step_of : StrStep → OwnedStep
owned_step_of (borrowed.Token kind text) = owned.Token kind (chars text.now)
owned_step_of (borrowed.Enter kind) = owned.Enter kind
owned_step_of borrowed.Exit = owned.Exit
owned_step_of (borrowed.Error text pos) = owned.Error (chars text.now) pos
