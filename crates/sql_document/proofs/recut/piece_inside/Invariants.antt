use Rattle.std.proofs.Common.{◌<◌, ◌-◌, length}
use Rattle.sql_document.proofs.recut.piece_inside.Given as goal

abbrev pub invariant-loop-size : goal.invariant-loop-size
invariant-loop-size g l = record { some : 0 < l.size }

abbrev pub decreases-loop-size : goal.decreases-loop-size
decreases-loop-size g l = length l.text - l.size
