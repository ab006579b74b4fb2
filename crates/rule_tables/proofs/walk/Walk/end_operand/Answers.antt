use Rattle.rule_tables.proofs.Walking.{went_then}
use Rattle.rule_tables.proofs.walk.Walk.end_operand.Goals as goal

pub returns : goal.returns
returns c = went_then _ _ _ _ _ _ c.in_ok-push.ensures (went_then _ _ _ _ _ _ c.in_ok-lead.ensures c.give_back.ensures)
