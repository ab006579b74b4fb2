use Rattle.rule_tables.proofs.Walking.{went_then}
use Rattle.rule_tables.proofs.walk.Walk.pass_or_go_in.Goals as goal

pub returns : goal.returns
returns c = went_then _ _ _ _ _ _ c.in_ok-push.ensures c.go_in.ensures
