use Rattle.std.proofs.Common.{◌++◌, List, ℕ, take}
use Rattle.sql_report.specs.Places.{AreCountable, IsLineColumn}
use Rattle.sql_report.proofs.line_column.LineColumn.pass.Given as goal

abbrev pub invariant-loop-byte : goal.invariant-loop-byte
invariant-loop-byte l =
    (read : List ℕ) → IsLineColumn read l.initial.self → AreCountable (read ++ take l.byte-index l.bytes) → IsLineColumn (read ++ take l.byte-index l.bytes) l.self
