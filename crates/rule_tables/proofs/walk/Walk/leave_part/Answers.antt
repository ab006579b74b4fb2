use Rattle.std.proofs.Common.{◌≡◌, sym, Some}
use Rattle.rule_tables.specs.Places.{Leaves}
use Rattle.rule_tables.proofs.Other.{leaves-other}
use Rattle.rule_tables.specs.declared.place.Place.TheVariants.{After, Separator}
use Rattle.rule_tables.proofs.Walking.{went_as, went_then, went_to}
use Rattle.rule_tables.proofs.walk.Walk.leave_part.Goals as goal

pub returns-in_ok-push-in-List : goal.returns-in_ok-push-in-List
returns-in_ok-push-in-List c =
    went_to _ _ (λ part. Leaves c.args.map.now.rows.now c.args.row (Some part)) _ (sym c.in-List.is)
    (went_then _ _ _ (λ q. q ≡ Separator c.args.row) (λ q. q ≡ After c.args.row) _ c.in_ok-push-in-List.ensures c.push-in-List.ensures)

pub returns-in_default : goal.returns-in_default
returns-in_default c =
    let same = leaves-other c.args.map.now.rows.now c.args.row c.args.part.now c.in_default.not-Repeat c.in_default.not-Some c.in_default.not-List in
    went_as _ _ (λ q. q ≡ After c.args.row) _ _ (λ q. (same q).0) (λ q. (same q).1) c.push-in_default.ensures

pub returns-in-Repeat : goal.returns-in-Repeat
returns-in-Repeat c = went_to _ _ (λ part. Leaves c.args.map.now.rows.now c.args.row (Some part)) _ (sym c.in-Repeat.is) c.again.ensures

pub returns-in-Some : goal.returns-in-Some
returns-in-Some c = went_to _ _ (λ part. Leaves c.args.map.now.rows.now c.args.row (Some part)) _ (sym c.in-Some.is) c.again-in-Some.ensures
