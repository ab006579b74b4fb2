use Rattle.std.proofs.Common.{◌≡◌, map, take}
use Rattle.sql_report.specs.Findings.{told}
use Rattle.sql_syntax.specs.TreeFindings.{told_error}
use Rattle.sql_syntax.proofs.tree_findings.findings_of.Given as goal

abbrev pub invariant-loop-error : goal.invariant-loop-error
invariant-loop-error l = map told l.findings.items ≡ map told_error (take l.error-index l.errors)
