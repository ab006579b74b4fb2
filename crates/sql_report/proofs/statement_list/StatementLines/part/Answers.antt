use Rattle.std.proofs.Common.{◌∙◌, string_bytes}
use Rattle.sql_report.specs.Places.{IsSameWindow}
use Rattle.sql_report.proofs.WindowLines.{statement_more}
use Rattle.sql_report.proofs.statement_list.StatementLines.part.Goals as goal

pub loop-statement-preserved : goal.loop-statement-preserved
loop-statement-preserved c =
    let loop = c.loop-statement.invariant in
    let gone = c.go_on.ensures in
    let self = c.args.self.now in
    let adds = c.in_ok-push_statement.ensures in
    let s = c.statement-item.result in
    let same : IsSameWindow c.args.place.now c.go_on.new.self = record { window = gone.window.window ∙ loop.window.window; before = gone.window.before ∙ loop.window.before } in
    record {
      names = adds.same ∙ loop.names;
      window = same;
      lines = λ script passed rest is begins stand.
          statement_more script passed rest c.args.place.now c.go_on.new.self same is c.line_column.result c.line_column.ensures (string_bytes self.lines)
          (string_bytes c.loop-statement.self.lines) (string_bytes c.push_statement.new.lines) self.names c.loop-statement.self.names c.args.statements.now c.args.in_window
          c.args.start c.loop-statement.statement-index s c.moved.result c.loop-statement-test.true c.statement-item.is loop.names begins gone.at stand c.moved.ensures
          (loop.lines script passed rest is begins stand) adds.line;
    }
