-- The steps of a walk over a syntax tree.
use Rattle.std.specs.Prelude.{ℕ, Bool, true, false, not, List, [], ◌∷◌, filter, sum_by, count_by}

pub data Step : Type 0 where
  -- a token of a kind, and how many input tokens it has
  Token : ℕ → ℕ → Step
  -- the beginning of a node of a kind
  Enter : ℕ → Step
  -- the end of a node
  Exit : Step
  -- an error with its text
  Error : List ℕ → Step

-- what an output holds: its steps, the number of recorded events, and the number of turns of the pass that made it
pub record Walk : Type 0 where
  pub steps : List Step
  pub recorded : ℕ
  pub turns : ℕ

-- what an OutputBuilder holds: the steps that a pass has made so far, and for how many it has room in all; the texts of
-- all errors of the log; and the number of turns
pub record Built : Type 0 where
  pub steps : List Step
  pub room : ℕ
  pub texts : List (List ℕ)
  pub turns : ℕ

abbrev pub is_enter : Step → Bool
is_enter (Enter kind) = true
is_enter step = false

abbrev pub is_exit : Step → Bool
is_exit Exit = true
is_exit step = false

abbrev pub is_error : Step → Bool
is_error (Error text) = true
is_error step = false

-- whether the first step is an error
abbrev pub begins_with_error : List Step → Bool
begins_with_error [] = false
begins_with_error (step ∷ steps) = is_error step

-- how many input tokens a step eats
abbrev pub count_of : Step → ℕ
count_of (Token kind n) = n
count_of step = 0

-- how many nodes the steps open
abbrev pub openings : List Step → ℕ
openings steps = count_by is_enter steps

-- how many nodes they close
abbrev pub closings : List Step → ℕ
closings steps = count_by is_exit steps

-- how many errors there are
abbrev pub errors_in : List Step → ℕ
errors_in steps = count_by is_error steps

-- the other steps
abbrev pub without_errors : List Step → List Step
without_errors steps = filter (λ step. not (is_error step)) steps

-- how many input tokens they eat
abbrev pub eaten : List Step → ℕ
eaten steps = sum_by count_of steps
