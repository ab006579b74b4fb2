-- What a tracker keeps of steps: enough to say whether they stand in one root, errors aside.
use Rattle.std.specs.Prelude.{ℕ, ◌+◌, ◌-◌, ◌==◌, Bool, not, ◌&&◌, cond, List}
use Rattle.std.specs.List.{fold}
use Rattle.squawk_output.specs.Steps.{Step, Token, Enter, Exit, Error}
use Rattle.squawk_output.specs.declared.output.root_tracker.RootTracker.{RootTracker}

-- the tracker that has seen no steps
abbrev pub untracked : RootTracker
untracked = record { depth = 0; top_level = 0 }

-- the tracker behind one more step, which leaves `depth` nodes open; a step that finds none open is at the top level
abbrev pub stepped : RootTracker → ℕ → RootTracker
stepped tracker depth = record { depth = depth; top_level = tracker.top_level + cond (tracker.depth == 0) 1 0 }

-- a number of steps, and the tracker that has seen them
pub record Tracked : Type 0 where
  pub count : ℕ
  pub tracker : RootTracker

abbrev pub tracked : Tracked → Step → Tracked
tracked so_far (Token kind n) = record { count = so_far.count + 1; tracker = stepped so_far.tracker so_far.tracker.depth }
tracked so_far (Enter kind) = record { count = so_far.count + 1; tracker = stepped so_far.tracker (so_far.tracker.depth + 1) }
tracked so_far Exit = record { count = so_far.count + 1; tracker = stepped so_far.tracker (so_far.tracker.depth - 1) }
tracked so_far (Error text) = so_far

-- the tracker that has seen these steps
abbrev pub tracked_of : List Step → Tracked
tracked_of steps = fold tracked (record { count = 0; tracker = untracked }) steps

-- Whether the steps that a tracker has seen, which are this many, stand in one root: no node is open, and of the steps,
-- which are more than one, the first alone found none open. So it is an opening, and the last of them is the closing
-- that left none open.
abbrev pub is_one_root : RootTracker → ℕ → Bool
is_one_root tracker steps = (tracker.top_level == 1) && ((tracker.depth == 0) && (not (steps == 0) && not (steps == 1)))
