use Rattle.std.proofs.Common.{sym, Some}
use Rattle.rule_tables.specs.Places.{Exits, GoesOnIn, outer_of}
use Rattle.rule_tables.proofs.Other.{exits-other}
use Rattle.rule_tables.specs.Walks.{plan_of}
use Rattle.rule_tables.proofs.Walking.{went_as, went_to}
use Rattle.rule_tables.proofs.walk.Walk.exit.Goals as goal

pub returns-in-Arm : goal.returns-in-Arm
returns-in-Arm c = went_to _ _ (λ part. Exits (plan_of c.args.map.now) c.args.row (Some part)) _ (sym c.in-Arm.is) c.end_way.ensures

pub returns-in-Tail : goal.returns-in-Tail
returns-in-Tail c = went_to _ _ (λ part. Exits (plan_of c.args.map.now) c.args.row (Some part)) _ (sym c.in-Tail.is) c.end_way-in-Tail.ensures

pub returns-in_default : goal.returns-in_default
returns-in_default c =
    let same = exits-other (plan_of c.args.map.now) c.args.row c.args.part.now c.in_default.not-Arm c.in_default.not-Tail in
    went_as _ _ (GoesOnIn c.args.map.now.rows.now c.args.row (outer_of c.args.map.now.rows.now c.args.row)) _ _ (λ q. (same q).0) (λ q. (same q).1) c.next.ensures
