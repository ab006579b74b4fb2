use Rattle.std.proofs.Common.{◌≡◌, ◌++◌, take}
use Rattle.sql_trim.specs.Trimmed.{without_blanks}
use Rattle.sql_trim.proofs.trim.push_trimmed.Given as goal

abbrev pub invariant-loop-byte : goal.invariant-loop-byte
invariant-loop-byte l = l.text.items ≡ l.initial.text.items ++ without_blanks (take l.byte-index l.ended)
