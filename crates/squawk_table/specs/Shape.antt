-- Walks over an input, and walks that fit a table.
use Rattle.std.specs.Prelude.{◌≡◌, ℕ, ◌+◌, ◌<◌, ◌≤◌, true, List, [], ◌∷◌, None, length, drop}
use Rattle.squawk_output.specs.OneRoot.{StandsInOneRoot}
use Rattle.squawk_output.specs.Steps.{Step, Token, Enter, Exit, Error, without_errors}
use Rattle.squawk_table.specs.ParserInput.{Entry, input_of, is_joint_in}
use Rattle.squawk_table.specs.RawTable.{Table}
use Rattle.squawk_kinds.specs.Keywords.{Keywords}

-- the first n tokens of an input are there, at least one, and they touch one another
pub record AreOneToken (n : ℕ) (input : List Entry) : Type 0 where
  pub some : 1 ≤ n
  pub there : n ≤ length input
  pub touch : (i : ℕ) → i + 1 < n → is_joint_in input i ≡ true

-- Read from the left, each token of the walk has the next tokens of the input, at least one, and these touch one
-- another.
abbrev pub IsOver : List Step → List Entry → Type 0
IsOver [] input = Unit {0}
IsOver (Token kind n ∷ steps) input = AreOneToken n input × IsOver steps (drop n input)
IsOver (Enter kind ∷ steps) input = IsOver steps input
IsOver (Exit ∷ steps) input = IsOver steps input
IsOver (Error text ∷ steps) input = IsOver steps input

-- which tokens an input has doesn't depend on contextual keywords
abbrev pub no_keywords : Keywords
no_keywords text = None

-- errors aside, the walk stands in one root, and it is over the input of the table
pub record Fits (table : Table) (steps : List Step) : Type 0 where
  pub root : StandsInOneRoot (without_errors steps)
  pub over : IsOver steps (input_of no_keywords table)
