use Rattle.std.proofs.Common.{◌≡◌, ◌++◌, take}
use Rattle.std.specs.List.{flat_map}
use Rattle.sql_report.specs.ErrorLines.{under}
use Rattle.sql_report.proofs.errors.push_mark.Given as goal

abbrev pub invariant-loop-byte : goal.invariant-loop-byte
invariant-loop-byte l = l.lines.items ≡ l.initial.lines.items ++ flat_map under (take l.byte-index l.before)
