-- What contracts see of a step that is lent.
use Rattle.std.specs.Str.{chars}
use Rattle.squawk_output.specs.Steps as plain
use Rattle.squawk_output.specs.declared.output.step.Step.{Step}
use Rattle.squawk_output.specs.declared.output.step.Step.TheVariants.{Token, Enter, Exit, Error}

-- a step that is lent
abbrev pub step_of : Step → plain.Step
step_of (Token kind n) = plain.Token kind n
step_of (Enter kind) = plain.Enter kind
step_of Exit = plain.Exit
step_of (Error text) = plain.Error (chars text.now)
