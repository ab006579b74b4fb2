use Rattle.std.proofs.Common.{◌≡◌}
use Rattle.squawk_kinds.specs.FirstSlots.{first_slot}
use Rattle.squawk_kinds.proofs.FirstPairs.{first_from, names_of}
use Rattle.squawk_kinds.proofs.kind_names.walked.Given as goal

-- no pair before the slot is one of the kind
abbrev pub invariant-loop-slot : goal.invariant-loop-slot
invariant-loop-slot l = first_from l.pairs l.slot l.kind ≡ first_slot (names_of l.pairs) l.kind
