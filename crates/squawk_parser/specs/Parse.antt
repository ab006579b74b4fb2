-- The result of a parse.
use Rattle.std.specs.Prelude.{◌≡◌, ◌≤◌, ◌*◌, Some, None, List, length, ◌⊎◌}
use Rattle.squawk_table.specs.ParserInput.{Entry, HasNoEndToken}
use Rattle.squawk_output.specs.Draft.{Draft, HasNoOpenMarker, plain}
use Rattle.squawk_output.specs.Steps.{Walk}
use Rattle.squawk_table.specs.Shape.{IsOver}
use Rattle.squawk_output.specs.OneRoot.{IsBalanced}
use Rattle.squawk_parser.specs.State.{State, IsSound, Keeps}
use Rattle.squawk_parser.specs.declared.parser.parse_error.ParseError.{ParseError}
use Rattle.squawk_parser.specs.declared.parser.parse_error.ParseError.TheVariants.{OutOfMemory}

-- The output is that of a draft without open markers that the grammar may leave. It is balanced, and over the input, which has no end token.
pub record IsParse (leaves : Draft → Type 0) (input : List Entry) (output : Walk) : Type 0 where
  pub draft : Draft
  pub left : leaves draft
  pub closed : HasNoOpenMarker draft.items
  pub steps : output.steps ≡ plain draft.items
  pub recorded : output.recorded ≡ draft.recorded
  pub turns : output.turns ≡ draft.turns_due
  -- each recorded event is at most one step, and at most four turns
  pub few : length output.steps ≤ output.recorded
  pub bound : output.turns ≤ 4 * output.recorded
  pub balanced : IsBalanced output.steps
  pub over : IsOver output.steps input
  pub no_end : HasNoEndToken input

-- the error of a parse that left this parser: its first reason, and if it has none, OutOfMemory
abbrev pub IsRefusalOf : State → ParseError → Type 0
IsRefusalOf s reason = (s.first_reason ≡ Some reason) ⊎ ((s.first_reason ≡ None) × (reason ≡ OutOfMemory))

-- A run that begins with this parser may leave another one, which has the parse's error.
pub record IsRefused (runs : State → State → Type 0) (begun : State) (reason : ParseError) : Type 0 where
  pub left : State
  pub ran : runs begun left
  pub keeps : Keeps begun left
  pub sound : IsSound left
  pub refusal : IsRefusalOf left reason
