use Rattle.std.proofs.Common.{sym, Some}
use Rattle.rule_tables.specs.Places.{EndsWay, Returns}
use Rattle.rule_tables.proofs.Other.{ends-other}
use Rattle.rule_tables.specs.Walks.{plan_of}
use Rattle.rule_tables.proofs.Walking.{went_as, went_to}
use Rattle.rule_tables.proofs.walk.Walk.end_way_of.Goals as goal

pub returns-in-Choice : goal.returns-in-Choice
returns-in-Choice c = went_to _ _ (λ part. EndsWay (plan_of c.args.map.now) c.args.row c.args.outer (Some part)) _ (sym c.in-Choice.is) c.push.ensures

pub returns-in-Operators : goal.returns-in-Operators
returns-in-Operators c = went_to _ _ (λ part. EndsWay (plan_of c.args.map.now) c.args.row c.args.outer (Some part)) _ (sym c.in-Operators.is) c.end_operand.ensures

pub returns-in_default : goal.returns-in_default
returns-in_default c =
    let same = ends-other (plan_of c.args.map.now) c.args.row c.args.outer c.args.part.now c.in_default.not-Choice c.in_default.not-Operators in
    went_as _ _ (Returns (plan_of c.args.map.now) c.args.row) _ _ (λ q. (same q).0) (λ q. (same q).1) c.give_back.ensures
