-- The sent list by the numbers of its steps.
use Rattle.std.specs.Prelude.{ℕ, zero, suc, ◌+◌, ◌==◌, Bool, false, not, ◌&&◌, ◌||◌, Option, Some, None, List, [], ◌∷◌, ◌++◌, map, take, drop, slice_get, if◌then◌else◌}
use Rattle.squawk_output.specs.Steps.{Step, eaten}
use Rattle.squawk_table.specs.RawTable.{RawToken}
use Rattle.squawk_table.specs.Sent.{receives_between, trivia_run, sent_raw, sent_step}
use Rattle.squawk_table.specs.declared.shortcuts.str_step.OwnedStep.{OwnedStep}

-- how many input tokens are eaten before step i
abbrev pub eaten_before : List Step → ℕ → ℕ
eaten_before steps i = eaten (take i steps)

-- whether trivia may stand directly before step i, if it is this one
abbrev pub receives : List Step → ℕ → Option Step → Bool
receives steps i None = false
receives steps i (Some step) = receives_between (take i steps) step (drop (i + 1) steps)

abbrev pub is_receiver : List Step → ℕ → Bool
is_receiver steps i = receives steps i (slice_get steps i)

-- whether a step before step n, with c input tokens before it, receives trivia
abbrev pub is_received : List Step → ℕ → ℕ → Bool
is_received steps c zero = false
is_received steps c (suc n) = (is_receiver steps n && (eaten_before steps n == c)) || is_received steps c n

-- the trivia that stands directly before step i: run c, if the step is the first receiver that c input tokens precede
abbrev pub trivia_before : List RawToken → List Step → ℕ → List RawToken
trivia_before raw steps i =
    let c = eaten_before steps i in
    if is_receiver steps i && not (is_received steps c i) then trivia_run raw c else []

-- what is sent for a step that may not be there
abbrev pub sent_steps : List RawToken → ℕ → List OwnedStep → Option Step → List OwnedStep
sent_steps raw c before None = []
sent_steps raw c before (Some step) = sent_step raw c before step ∷ []

-- what was sent, and then what is sent for step i: the trivia before it, and the step
abbrev pub sent_past : List RawToken → List Step → ℕ → List OwnedStep → List OwnedStep
sent_past raw steps i before =
    let past = before ++ map sent_raw (trivia_before raw steps i) in
    past ++ sent_steps raw (eaten_before steps i) past (slice_get steps i)

-- what is sent for the first n steps
abbrev pub sent_below : List RawToken → List Step → ℕ → List OwnedStep
sent_below raw steps zero = []
sent_below raw steps (suc i) = sent_past raw steps i (sent_below raw steps i)
