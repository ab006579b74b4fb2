use Rattle.std.proofs.Common.{◌≤◌, ◌-◌, length}
use Rattle.sql_document.proofs.recut.char_end.Given as goal

abbrev pub invariant-loop-end : goal.invariant-loop-end
invariant-loop-end l = record { within : l.end ≤ length l.text }

abbrev pub decreases-loop-end : goal.decreases-loop-end
decreases-loop-end l = length l.text - l.end
