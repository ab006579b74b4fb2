use Rattle.std.proofs.Common.{◌≡◌, map, take}
use Rattle.caliperdock_c.specs.Overlays.{over}
use Rattle.caliperdock_c.specs.Statements.{numbered_statement}
use Rattle.caliperdock_c.proofs.sql_lists.write_statements.Given as goal

abbrev pub invariant-loop-i : goal.invariant-loop-i
invariant-loop-i l = l.room ≡ over (take l.i (map numbered_statement l.statements)) l.initial.room
