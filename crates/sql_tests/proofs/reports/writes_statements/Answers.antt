use Rattle.std.proofs.Common.{ap, arith, length}
use Rattle.squawk_table.specs.RawTable.{Table}
use Rattle.sql_tests.proofs.reports.writes_statements.Goals as goal

pub lines-requires : goal.lines-requires
lines-requires g c = omega (arith, ap (λ (t : Table). length t.text) c.in_ok-table.ensures.table, c.in_ok-table.ensures.accepted.short)
