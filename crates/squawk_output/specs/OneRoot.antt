-- Walks whose nodes are balanced, and walks that stand in one root.
use Rattle.std.specs.Prelude.{◌≡◌, ℕ, ◌<◌, ◌≤◌, List, ◌∷◌, length, take}
use Rattle.squawk_output.specs.Steps.{Step, Enter, openings, closings}

-- no beginning closes more nodes than it opens, and all that are opened are closed
pub record IsBalanced (steps : List Step) : Type 0 where
  pub never_below : (k : ℕ) → closings (take k steps) ≤ openings (take k steps)
  pub closed : closings steps ≡ openings steps

-- the first step is an opening
abbrev pub BeginsWithEnter : List Step → Type 0
BeginsWithEnter (Enter kind ∷ steps) = Unit {0}
BeginsWithEnter steps = ⊥

-- The walk begins with an opening. No beginning closes more nodes than it opens, and of those that aren't empty only
-- the whole walk closes as many.
pub record StandsInOneRoot (steps : List Step) : Type 0 where
  pub begins : BeginsWithEnter steps
  pub inside : (k : ℕ) → 0 < k → k < length steps → closings (take k steps) < openings (take k steps)
  pub closed : closings steps ≡ openings steps
