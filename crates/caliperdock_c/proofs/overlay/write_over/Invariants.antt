use Rattle.std.proofs.Common.{◌≡◌, take}
use Rattle.caliperdock_c.specs.Overlays.{over}
use Rattle.caliperdock_c.proofs.overlay.write_over.Given as goal

abbrev pub invariant-loop-i : goal.invariant-loop-i
invariant-loop-i g l = l.room ≡ over (take l.i l.items) l.initial.room
