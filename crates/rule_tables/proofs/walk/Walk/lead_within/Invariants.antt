use Rattle.rule_tables.proofs.Below.{rank}
use Rattle.rule_tables.proofs.Leading.{IsLeading}
use Rattle.rule_tables.proofs.walk.Walk.lead_within.Given as goal

abbrev pub invariant-loop-at : goal.invariant-loop-at
invariant-loop-at l = IsLeading l.map.rows.now l.way l.row l.fn.self l.self l.at

abbrev pub decreases-loop-at : goal.decreases-loop-at
decreases-loop-at l = rank l.at
