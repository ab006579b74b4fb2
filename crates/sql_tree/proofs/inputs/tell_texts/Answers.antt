use Rattle.sql_tree.proofs.TellsTextsLemmas.{tells_end, tells_next, tells_none}
use Rattle.sql_tree.proofs.inputs.tell_texts.Goals as goal

pub loop-name-init : goal.loop-name-init
loop-name-init g c = rw c.new-totals.ensures (tells_none _ _ _ _ _ _ _)

pub loop-name-preserved : goal.loop-name-preserved
loop-name-preserved g c =
    tells_next _ _ _ _ _ c.args.names.now c.loop-name.name-index _ c.loop-name-test.true c.loop-name.totals c.count.new.self _ _ _ _ _ _
    _ c.loop-name.invariant c.count.ensures c.in_ok-report.ensures.told

pub returns-clause-told : goal.returns-clause-told
returns-clause-told g c =
    tells_end _ _ _ _ _ c.args.names.now c.loop-name.name-index c.loop-name-test.false _ c.has_headings-has_heading.ensures _ _ _ _ _ c.loop-name.invariant
