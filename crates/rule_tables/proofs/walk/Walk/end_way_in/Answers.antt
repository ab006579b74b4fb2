use Rattle.std.proofs.Common.{sym}
use Rattle.std.proofs.lemmas.Option.{slice_get_past}
use Rattle.rule_tables.specs.Places.{EndsWay}
use Rattle.rule_tables.specs.Walks.{plan_of}
use Rattle.rule_tables.proofs.Walking.{went_to}
use Rattle.rule_tables.proofs.walk.Walk.end_way_in.Goals as goal

pub returns-in-None : goal.returns-in-None
returns-in-None c = went_to _ _ (EndsWay (plan_of c.args.map.now) c.args.row c.args.outer) _ (sym (slice_get_past c.args.map.now.rows.now c.args.outer c.in-None.ensures.lookup.3)) c.give_back.ensures
