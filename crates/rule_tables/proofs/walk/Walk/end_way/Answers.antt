use Rattle.rule_tables.specs.Places.{EndsWayIn}
use Rattle.rule_tables.specs.Walks.{plan_of}
use Rattle.rule_tables.proofs.Walking.{went_to}
use Rattle.rule_tables.proofs.walk.Walk.end_way.Goals as goal

pub returns-in-Some : goal.returns-in-Some
returns-in-Some c = went_to _ _ (EndsWayIn (plan_of c.args.map.now) c.args.row) _ (c.in-Some.ensures c.requires) c.end_way_in.ensures

pub returns-in-None : goal.returns-in-None
returns-in-None c = went_to _ _ (EndsWayIn (plan_of c.args.map.now) c.args.row) _ (c.in-None.ensures c.requires) c.give_back.ensures
