-- Statements as numbers.
use Rattle.sql_report.specs.declared.statement_list.Statement.{Statement}
use Rattle.caliperdock_c.specs.declared.statement.CStatement.{CStatement}

abbrev pub numbered_statement : Statement → CStatement
numbered_statement s = record { kind = s.kind; start = s.start; end = s.end }
