-- Steps on their way out, one after another.
use Rattle.std.specs.Prelude.{ℕ, ◌+◌, ◌-◌, ◌≤◌, ◌==◌, nat_lt, Bool, true, false, List, [], ◌∷◌, ◌++◌, map, length, slice_index, slice_range, if◌then◌else◌}
use Rattle.std.specs.Str.{chars}
use Rattle.squawk_output.specs.Steps.{Step, Token, Enter, Exit, Error}
use Rattle.squawk_table.specs.RawTable.{Table, RawToken, raw_after}
use Rattle.squawk_table.specs.Sent.{sent_raw, leading_trivia}
use Rattle.squawk_table.specs.declared.shortcuts.str_step.OwnedStep.{OwnedStep}
use Rattle.squawk_table.specs.declared.shortcuts.str_step.OwnedStep.TheVariants as sent

-- whether trivia may stand directly before a step inside of so many nodes: before a token, before an opening that isn't
-- the first, and before the closing of the root
abbrev pub receives_at : ℕ → Step → Bool
receives_at depth (Token kind n) = true
receives_at depth (Enter kind) = nat_lt 0 depth
receives_at depth Exit = depth == 1
receives_at depth (Error text) = false

-- the number of open nodes behind a step
abbrev pub depth_behind : ℕ → Step → ℕ
depth_behind depth (Enter kind) = depth + 1
depth_behind depth Exit = depth - 1
depth_behind depth step = depth

-- what is sent for a step: of a token the raw tokens from this one on
abbrev pub sent_here : Table → ℕ → Step → OwnedStep
sent_here table raw (Token kind n) = sent.Token kind (chars (slice_range table.text (slice_index table.starts raw) (slice_index table.starts (raw + n))))
sent_here table raw (Enter kind) = sent.Enter kind
sent_here table raw Exit = sent.Exit
sent_here table raw (Error text) = sent.Error text (slice_index table.starts raw)

-- the raw tokens of a token are there, and it has one at least
abbrev pub HasTokens : Table → ℕ → Step → Type 0
HasTokens table raw (Token kind n) = (1 ≤ n) × (raw + n ≤ length table.kinds)
HasTokens table raw step = Unit {0}

-- the next raw token behind a step
abbrev pub next_raw : ℕ → Step → ℕ
next_raw raw (Token kind n) = raw + n
next_raw raw step = raw

-- the trivia that is sent directly before a step, from a raw token on, inside of so many nodes
abbrev pub trivia_here : Table → ℕ → ℕ → Step → List RawToken
trivia_here table raw depth step = if receives_at depth step then leading_trivia (raw_after table raw) else []

-- the raw token at the step, behind that trivia
abbrev pub raw_here : Table → ℕ → ℕ → Step → ℕ
raw_here table raw depth step = raw + length (trivia_here table raw depth step)

-- what is sent for steps, from a raw token on, inside of so many nodes
abbrev pub sent_from : Table → ℕ → ℕ → List Step → List OwnedStep
sent_from table raw depth [] = []
sent_from table raw depth (step ∷ steps) =
    let at = raw_here table raw depth step in
    map sent_raw (trivia_here table raw depth step) ++ sent_here table at step ∷ sent_from table (next_raw at step) (depth_behind depth step) steps

-- the next raw token behind them
abbrev pub end_from : Table → ℕ → ℕ → List Step → ℕ
end_from table raw depth [] = raw
end_from table raw depth (step ∷ steps) =
    let at = raw_here table raw depth step in
    end_from table (next_raw at step) (depth_behind depth step) steps

-- each of their tokens has its raw tokens, and they end within the table
abbrev pub HaveTokens : Table → ℕ → ℕ → List Step → Type 0
HaveTokens table raw depth [] = raw ≤ length table.kinds
HaveTokens table raw depth (step ∷ steps) =
    let at = raw_here table raw depth step in
    HasTokens table at step × HaveTokens table (next_raw at step) (depth_behind depth step) steps
