-- The steps that skipping puts at the end of a draft.
use Rattle.std.specs.Prelude.{ℕ, Bool, List, [], ◌∷◌, map, if◌then◌else◌}
use Rattle.squawk_kinds.specs.Kinds.{ERROR}
use Rattle.squawk_table.specs.ParserInput.{Entry}
use Rattle.squawk_output.specs.Steps.{Step, Error}
use Rattle.squawk_parser.specs.Eaten.{node, one}

-- the tokens before the first of a kind to stop at
abbrev pub before_stop : (ℕ → Bool) → List Entry → List Entry
before_stop stops [] = []
before_stop stops (e ∷ seen) = if stops e.kind then [] else e ∷ before_stop stops seen

-- tokens one by one
abbrev pub one_by_one : List Entry → List Step
one_by_one tokens = map (λ e. one e.kind) tokens

-- skipped tokens are in a node, behind an error; if there are none, nothing is put
abbrev pub skip_steps : List ℕ → List Entry → List Step
skip_steps text [] = []
skip_steps text (e ∷ tokens) = node ERROR (Error text ∷ one_by_one (e ∷ tokens))
