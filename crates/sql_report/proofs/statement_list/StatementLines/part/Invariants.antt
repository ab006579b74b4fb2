use Rattle.std.proofs.Common.{◌≡◌, ◌+◌, ◌<◌, ◌≤◌, ◌^◌, ◌++◌, List, ℕ, length, map, string_bytes, take}
use Rattle.std.specs.Prelude.{All}
use Rattle.sql_report.specs.Places.{IsSameWindow, IsWindowOf}
use Rattle.sql_report.specs.Statements.{moved_statement, statement_lines}
use Rattle.sql_report.proofs.statement_list.StatementLines.part.Given as goal

abbrev pub invariant-loop-statement : goal.invariant-loop-statement
invariant-loop-statement l = record {
  names : l.self.names ≡ l.initial.self.names;
  window : IsSameWindow l.initial.place l.place;
  lines : (script passed rest : List ℕ) → IsWindowOf script passed rest l.initial.place → l.start ≡ length passed + l.in_window
      → All (λ s. (l.in_window + s.start ≤ length l.initial.place.window) × (l.start + s.end < 2 ^ 64)) l.statements
      → string_bytes l.self.lines
      ≡ string_bytes l.initial.self.lines ++ statement_lines script l.initial.self.names (map (moved_statement l.start) (take l.statement-index l.statements));
}
