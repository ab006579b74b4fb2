-- Grammars whose runs leave one root over all of an input.
use Rattle.std.specs.Prelude.{◌≤◌, List, length}
use Rattle.squawk_output.specs.Draft.{Draft, plain}
use Rattle.squawk_output.specs.OneRoot.{StandsInOneRoot}
use Rattle.squawk_output.specs.Steps.{eaten, without_errors}
use Rattle.squawk_table.specs.ParserInput.{Entry}

-- Errors aside, a draft is one node with all that it holds, and no token of the input is left.
pub record IsWholeFile (input : List Entry) (draft : Draft) : Type 0 where
  pub root : StandsInOneRoot (without_errors (plain draft.items))
  pub all : length input ≤ eaten (plain draft.items)
