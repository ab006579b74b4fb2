-- A log has no more steps than events.
use Rattle.std.proofs.Common.{ℕ, zero, suc, ◌≤◌, [], ◌∷◌, ap, arith, length, length-append, refl}
use Rattle.squawk_output.specs.EventLog.{Log, list_of, steps_of_event}
use Rattle.squawk_output.specs.declared.event.Event.{Event}
use Rattle.squawk_output.specs.declared.event.Event.TheVariants.{Start}
use Rattle.squawk_output.proofs.Gathered.{least_owner, list_of-gathered, steps_at}
use Rattle.squawk_output.proofs.Owners.{owner-most}
use Rattle.squawk_output.proofs.Sizes.{size-gathered, total-most, total-ones}

length-steps_of_event : (event : Event) → length (steps_of_event event) ≤ 1
length-steps_of_event (Start kind link) = grind arith
length-steps_of_event event = omega arith

length-steps_at : (log : Log) (index : ℕ) → length (steps_at log index) ≤ 1
length-steps_at [] index = omega arith
length-steps_at (event ∷ log) zero = length-steps_of_event event
length-steps_at (event ∷ log) (suc index) = length-steps_at log index

pub length-list_of : (log : Log) → length (list_of log) ≤ length log
length-list_of log =
    omega (
      arith,
      ap length (list_of-gathered log),
      size-gathered length refl length-append (least_owner log) (steps_at log) (length log) (λ j lt. omega (arith, owner-most log j, lt)),
      total-most (λ j. length (steps_at log j)) (λ j. 1) (length log) (length-steps_at log),
      total-ones (length log),
    )
