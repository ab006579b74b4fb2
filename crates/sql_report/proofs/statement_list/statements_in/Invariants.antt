use Rattle.std.proofs.Common.{◌≡◌, ◌+◌, ◌<◌, ◌^◌, ◌++◌}
use Rattle.squawk_table.specs.Sent.{bytes_of}
use Rattle.sql_report.specs.OpenNodes.{statements_left}
use Rattle.sql_report.specs.Statements.{statements_of}
use Rattle.sql_report.proofs.statement_list.statements_in.Given as goal

abbrev pub invariant-loop-step : goal.invariant-loop-step
invariant-loop-step l = record {
  room : l.at + bytes_of l.step-iterator.steps < 2 ^ 64;
  all : l.statements.items ++ statements_left l.nodes.items l.at l.step-iterator.steps ≡ statements_of l.initial.step-iterator.steps;
}
