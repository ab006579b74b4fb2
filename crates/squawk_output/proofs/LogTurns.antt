-- The turns of a log, event by event.
use Rattle.std.proofs.Common.{◌≡◌, ℕ, ◌+◌, ◌*◌, ◌≤◌, Bool, Some, None, [], ◌∷◌, cond, length, arith}
use Rattle.squawk_output.specs.declared.event.Event.{Event}
use Rattle.squawk_output.specs.declared.event.Event.TheVariants.{Start}
use Rattle.squawk_output.specs.EventLog.{Log, has_link, is_start, turns_of}
use Rattle.squawk_output.proofs.Sums.{count_by-cons}

abbrev pub one_if : Bool → ℕ
one_if b = cond b 1 0

-- the turns that one event brings
abbrev pub turns_at : Event → ℕ
turns_at event = 1 + one_if (is_start event) + 2 * one_if (has_link event)

pub turns_of-cons : (event : Event) (log : Log) → turns_of (event ∷ log) ≡ turns_at event + turns_of log
turns_of-cons event log = omega (arith, count_by-cons is_start event log, count_by-cons has_link event log)

turns_at-most : (event : Event) → turns_at event ≤ 4
turns_at-most (Start kind None) = omega arith
turns_at-most (Start kind (Some distance)) = omega arith
turns_at-most event = omega arith

-- an event brings four turns at most: one, one more for a Start, and two for its link
pub turns_of-most : (log : Log) → turns_of log ≤ 4 * length log
turns_of-most [] = omega arith
turns_of-most (event ∷ log) = omega (arith, turns_of-cons event log, turns_at-most event, turns_of-most log)
