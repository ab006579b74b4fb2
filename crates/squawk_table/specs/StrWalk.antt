-- What an iterator over the sent list still has to give.
use Rattle.std.specs.Prelude.{◌≡◌, ℕ, ◌+◌, ◌-◌, ◌<◌, ◌≤◌, ◌^◌, ◌==◌, ◌⊎◌, Bool, List, length, Option, MatchOption}
use Rattle.squawk_output.specs.Steps.{Step}
use Rattle.squawk_table.specs.RawTable.{Table}
use Rattle.squawk_table.specs.Sending.{sent_from, end_from, HaveTokens}
use Rattle.squawk_table.specs.declared.shortcuts.str_step.OwnedStep.{OwnedStep}

-- The steps that are still to come, and whether all tokens of the input are eaten at their end. They are the steps that
-- are left of the output, and trivia among the raw tokens that are left.
pub record StrWalk : Type 0 where
  pub steps : List OwnedStep
  pub eaten_all : Bool
  pub steps_left : ℕ
  pub raw_left : ℕ

-- a step of the output was given, with the raw tokens under it
abbrev pub TakesStep : StrWalk → StrWalk → Type 0
TakesStep before after = (before.steps_left ≡ after.steps_left + 1) × (after.raw_left ≤ before.raw_left)

-- a raw token was given by itself
abbrev pub TakesRawToken : StrWalk → StrWalk → Type 0
TakesRawToken before after = (before.steps_left ≡ after.steps_left) × (before.raw_left ≡ after.raw_left + 1)

-- how a walk goes on: behind its end it stays as it is
abbrev pub GoesOn : {X : Type 0} → StrWalk → Option X → StrWalk → Type 0
GoesOn before item after = (after.eaten_all ≡ before.eaten_all) × MatchOption item (after ≡ before) (λ _. TakesStep before after ⊎ TakesRawToken before after)

-- the walk over these steps from a raw token on, inside of so many nodes
abbrev pub walk_from : Table → ℕ → ℕ → List Step → StrWalk
walk_from table raw depth left = record {
  steps = sent_from table raw depth left;
  eaten_all = end_from table raw depth left == length table.kinds;
  steps_left = length left;
  raw_left = length table.kinds - raw;
}

-- the walk can be gone to its end, with raw tokens and a depth that can be counted
pub record CanGoOn (table : Table) (raw depth : ℕ) (left : List Step) : Type 0 where
  pub within : raw ≤ length table.kinds
  pub tokens : HaveTokens table raw depth left
  pub few : length table.kinds < 2 ^ 64
  pub low : depth + length left < 2 ^ 64
