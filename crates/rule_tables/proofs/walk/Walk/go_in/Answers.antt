use Rattle.rule_tables.specs.Places.{Begins}
use Rattle.rule_tables.proofs.Walking.{went_to}
use Rattle.rule_tables.proofs.walk.Walk.go_in.Goals as goal

pub returns-in-Some : goal.returns-in-Some
returns-in-Some c = went_to _ _ (Begins c.args.map.now.rows.now c.args.row) _ c.in-Some.ensures c.push.ensures
