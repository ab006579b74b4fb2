use Rattle.std.proofs.Common.{◌≡◌, ◌++◌, map, take}
use Rattle.std.specs.List.{filter_map}
use Rattle.sql_report.specs.Findings.{told}
use Rattle.sql_lint.specs.Rows.{row_of}
use Rattle.sql_lint.specs.Rules.{told_if}
use Rattle.sql_lint.proofs.lint.push_told.Given as goal

abbrev pub invariant-loop-row : goal.invariant-loop-row
invariant-loop-row l =
    map told l.findings.items
    ≡ map told l.initial.findings.items ++ filter_map (told_if l.at) (map row_of (take l.row-index l.rows))
