use Rattle.std.proofs.Common.{◌∙◌, ap, arith, get_or, set}
use Rattle.caliperdock_c.specs.Statements.{numbered_statement}
use Rattle.caliperdock_c.proofs.Overlays.{over_more_map}
use Rattle.caliperdock_c.proofs.sql_lists.write_statements.Goals as goal

pub loop-i-preserved : goal.loop-i-preserved
loop-i-preserved c =
    let items = c.args.statements.now in
    let i = c.loop-i.i in
    let item = c.index-statements-i.result in
    let end = c.min-end.ensures in
    let number = c.numbered_statement.ensures ∙ ap numbered_statement c.index-statements-i.is in
    ap (λ x. set c.loop-i.room i x) number
    ∙ (ap (λ room. set room i (numbered_statement (get_or items i item))) c.loop-i.invariant
    ∙ over_more_map numbered_statement c.args.room.now items item i (omega arith) (omega arith))
