use Rattle.rule_tables.specs.Places.{GoesOn, GoesOnIn}
use Rattle.rule_tables.proofs.Walking.{goes_none, goes_to, went_to}
use Rattle.rule_tables.proofs.walk.Walk.next.Goals as goal

pub returns-in-Some-next : goal.returns-in-Some-next
returns-in-Some-next c =
    went_to _ _ (GoesOnIn c.args.map.now.rows.now c.args.row) _ (c.in-Some.ensures c.requires)
    (went_to _ _ (GoesOn c.args.map.now.rows.now c.in-Some.outer) _ c.in-Some-next.ensures c.push.ensures)

pub returns-in-None : goal.returns-in-None
returns-in-None c = goes_to _ _ (GoesOnIn c.args.map.now.rows.now c.args.row) (c.in-None.ensures c.requires) (goes_none c.args.self.now)
