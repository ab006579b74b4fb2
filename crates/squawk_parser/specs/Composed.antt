-- What holds of parts of a grammar that make several calls.
use Rattle.std.specs.Prelude.{◌≡◌, ◌+◌, true, Some, List, ◌∷◌, ◌++◌, length}
use Rattle.squawk_output.specs.Steps.{Step, Enter, eaten, errors_in}
use Rattle.squawk_output.specs.Draft.{Draft, Item, Node, Open, HasNoOpenMarker, errors_of, plain}
use Rattle.squawk_parser.specs.Recorded.{IsRefusedStep}
use Rattle.squawk_parser.specs.State.{State, HasNotFailed, Keeps}
use Rattle.squawk_parser.specs.declared.parser.parse_error.ParseError.{ParseError}

-- Items for these steps stand at the end, without an open marker.
pub record IsAdded (steps : List Step) (old new : Draft) : Type 0 where
  pub made : List Item
  pub items : new.items ≡ old.items ++ made
  pub steps_made : plain made ≡ steps
  pub closed : HasNoOpenMarker made

-- A part adds steps at the end, and eats their tokens. Some may have been recorded after others that stand behind them.
pub record Adds (steps : List Step) (old new : State) : Type 0 where
  pub keeps : Keeps old new
  pub position : new.position ≡ old.position + eaten steps
  pub draft : HasNotFailed new → IsAdded steps old.draft new.draft

-- The same of a node that can be preceded: its opening is the first of the items.
pub record IsNodeAdded (steps : List Step) (node : Node) (old new : Draft) : Type 0 where
  pub inner : List Item
  pub items : new.items ≡ old.items ++ Open node.id node.kind true ∷ inner
  pub steps_made : Enter node.kind ∷ plain inner ≡ steps
  pub closed : HasNoOpenMarker inner

pub record AddsNode (steps : List Step) (node : Node) (old new : State) : Type 0 where
  pub keeps : Keeps old new
  pub position : new.position ≡ old.position + eaten steps
  pub draft : HasNotFailed new → IsNodeAdded steps node old.draft new.draft

-- A part records these steps one after another, wherever they are put, and one that fails is refused one of them.
pub record RecordsSteps (steps : List Step) (old new : State) : Type 0 where
  pub keeps : Keeps old new
  pub recorded : HasNotFailed new → new.draft.recorded ≡ old.draft.recorded + length steps
  pub errors : HasNotFailed new → errors_of new.draft.items ≡ errors_of old.draft.items + errors_in steps
  pub refused : HasNotFailed old → (reason : ParseError) → new.first_reason ≡ Some reason → IsRefusedStep old steps reason
