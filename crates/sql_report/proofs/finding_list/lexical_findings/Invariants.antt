use Rattle.std.proofs.Common.{◌≡◌, ◌++◌, map}
use Rattle.sql_report.specs.Findings.{told, told_lexical}
use Rattle.sql_report.proofs.finding_list.lexical_findings.Given as goal

abbrev pub invariant-loop-error : goal.invariant-loop-error
invariant-loop-error l = map told l.all.items ++ map told_lexical l.error-iterator ≡ map told_lexical l.table.errors
