use Rattle.std.proofs.Common.{◌∙◌, arith, sym}
use Rattle.sql_lexer.proofs.ArgumentEnds.{arguments-all, arguments-end, arguments-next}
use Rattle.sql_lexer.proofs.psql.arguments_end.Goals as goal

pub loop-at-preserved : goal.loop-at-preserved
loop-at-preserved c =
    let step = arguments-next c.loop-at.quote c.args.text.now c.loop-at.at c.loop-at-test.true (sym c.ends_arguments.ensures ∙ c.if-ends_arguments.false) c.quote_after-quote.ensures in
    let so_far = c.loop-at.invariant.so_far in
    record { within = omega (arith, c.loop-at-test.true); so_far = omega (arith, step, so_far) }

pub returns-then-ends_arguments : goal.returns-then-ends_arguments
returns-then-ends_arguments c =
    let step = arguments-end c.loop-at.quote c.args.text.now c.loop-at.at c.loop-at-test.true (sym c.ends_arguments.ensures ∙ c.if-ends_arguments.true) in
    let so_far = c.loop-at.invariant.so_far in
    record { end = omega (arith, step, so_far); within = c.loop-at.invariant.within }

pub returns : goal.returns
returns c =
    let step = arguments-all c.loop-at.quote c.args.text.now c.loop-at.at c.loop-at-test.false in
    let so_far = c.loop-at.invariant.so_far in
    record { end = omega (arith, step, so_far); within = c.loop-at.invariant.within }
