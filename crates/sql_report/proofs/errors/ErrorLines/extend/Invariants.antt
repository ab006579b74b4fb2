use Rattle.std.proofs.Common.{◌≡◌, ◌+◌, ◌-◌, ◌^◌, ◌++◌, List, ℕ, length, map, min, take}
use Rattle.std.specs.Prelude.{All}
use Rattle.sql_report.specs.ErrorLines.{error_texts, moved_finding}
use Rattle.sql_report.specs.Places.{IsSameWindow, IsWindowOf, SeesLine}
use Rattle.sql_report.proofs.errors.ErrorLines.extend.Given as goal

abbrev pub invariant-loop-finding : goal.invariant-loop-finding
invariant-loop-finding l = record {
  name : l.self.name ≡ l.initial.self.name;
  window : IsSameWindow l.initial.place l.place;
  lines : (script passed rest : List ℕ) → IsWindowOf script passed rest l.initial.place → All (λ finding. SeesLine passed rest l.initial.place.window (l.start + finding.at)) l.findings
      → l.self.lines.items
      ≡ l.initial.self.lines.items ++ error_texts l.initial.self.name.now script (map (moved_finding (length passed + l.start)) (take l.finding-index l.findings));
  count : (n : ℕ) → l.initial.self.count ≡ min n (2 ^ 64 - 1) → l.self.count ≡ min (n + l.finding-index) (2 ^ 64 - 1);
}
