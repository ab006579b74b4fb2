use Rattle.std.proofs.Common.{◌≡◌, ℕ, false, length}
use Rattle.squawk_script.specs.Slots.{is_status_open, slot_at, status_of}
use Rattle.squawk_script.proofs.slot.let_go.Given as goal

abbrev pub invariant-loop-slot : goal.invariant-loop-slot
invariant-loop-slot l = (i : ℕ) → is_status_open (status_of (slot_at l.slots.items i)) ≡ false

abbrev pub decreases-loop-slot : goal.decreases-loop-slot
decreases-loop-slot l = length l.slots.items
