-- A parser that goes on after an act had room for all of its steps. So one that hadn't, and that no memory was refused, has failed for
-- a limit.
use Rattle.std.proofs.Common.{◌+◌, ◌≤◌, List, length, arith}
use Rattle.squawk_output.specs.Steps.{Step, errors_in}
use Rattle.squawk_output.specs.Draft.{errors_of}
use Rattle.squawk_parser.specs.Recorded.{Puts}
use Rattle.squawk_parser.specs.State.{State, HasNotFailed}
use Rattle.squawk_parser.proofs.RecordedSteps.{counted}

-- the steps fit under both limits
pub record HasRoomFor (steps : List Step) (s : State) : Type 0 where
  pub events : s.draft.recorded + length steps ≤ s.max_events
  pub errors : errors_of s.draft.items + errors_in steps ≤ s.max_errors

pub had_room : {steps : List Step} {old new : State} → Puts steps old new → HasNotFailed new → HasRoomFor steps old
had_room {steps} {old} {new} puts goes =
    let counts = counted {xs = steps} {a = old} {b = new} (puts.draft goes) in
    let sound = puts.keeps.sound in
    record {
      events = omega (arith, counts.recorded, sound.recorded, puts.keeps.max_events);
      errors = omega (arith, counts.errors, sound.errors, puts.keeps.max_errors);
    }

-- a law: where one of the steps has no room, the parser fails
pub without_room : {steps : List Step} {old new : State} → Puts steps old new → ¬ (HasRoomFor steps old) → ¬ (HasNotFailed new)
without_room puts none goes = none (had_room puts goes)
