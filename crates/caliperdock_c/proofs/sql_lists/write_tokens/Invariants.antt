use Rattle.std.proofs.Common.{◌≡◌, map, take}
use Rattle.caliperdock_c.specs.Overlays.{over}
use Rattle.caliperdock_c.specs.TokenNumbers.{number_of}
use Rattle.caliperdock_c.proofs.sql_lists.write_tokens.Given as goal

abbrev pub invariant-loop-i : goal.invariant-loop-i
invariant-loop-i l = l.room ≡ over (take l.i (map number_of l.tokens)) l.initial.room
