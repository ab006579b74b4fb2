use Rattle.std.proofs.Common.{◌∙◌, sym}
use Rattle.std.proofs.lemmas.Bool.{ne_eqb}
use Rattle.sql_report.proofs.LineColumns.{counted_begin, counted_feed, counted_inside}
use Rattle.sql_report.proofs.line_column.LineColumn.pass_byte.Goals as goal

pub returns-then-byte-eq10 : goal.returns-then-byte-eq10
returns-then-byte-eq10 c = λ read is countable.
    counted_feed read c.args.byte c.args.self.now is countable c.saturating_add-self.result c.if-byte-eq10.true c.saturating_add-self.ensures

pub returns-then-not-is_continuation : goal.returns-then-not-is_continuation
returns-then-not-is_continuation c = λ read is countable.
    counted_begin read c.args.byte c.args.self.now is countable c.saturating_add-self-then-not-is_continuation.result (ne_eqb _ 10 c.if-byte-eq10.false)
    (sym c.is_continuation.ensures ∙ c.if-not-is_continuation.true) c.saturating_add-self-then-not-is_continuation.ensures

pub returns-else-not-is_continuation : goal.returns-else-not-is_continuation
returns-else-not-is_continuation c = λ read is countable.
    counted_inside read c.args.byte c.args.self.now is countable (ne_eqb _ 10 c.if-byte-eq10.false) (sym c.is_continuation.ensures ∙ c.if-not-is_continuation.false)
