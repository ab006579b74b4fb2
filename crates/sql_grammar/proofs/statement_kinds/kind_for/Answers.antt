use Rattle.std.proofs.Common.{◌∙◌, sym}
use Rattle.sql_grammar.proofs.StatementKinds.{row_found, row_next}
use Rattle.sql_grammar.proofs.statement_kinds.kind_for.Goals as goal

pub returns-then-first-word : goal.returns-then-first-word
returns-then-first-word c =
    sym (row_found c.args.word c.args.table.now c.loop-first.first-index c.loop-first-test.true (c.if-first-word.true ∙ c.word.view_is))
    ∙ c.loop-first.invariant

pub loop-first-preserved : goal.loop-first-preserved
loop-first-preserved c =
    sym (row_next c.args.word c.args.table.now c.loop-first.first-index c.loop-first-test.true (λ is. c.if-first-word.false (is ∙ sym c.word.view_is)))
    ∙ c.loop-first.invariant
