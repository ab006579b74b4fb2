use Rattle.rule_tables.specs.declared.place.Way.TheVariants as way
use Rattle.rule_tables.proofs.Leading.{arm_within, led_from, led_to_all}
use Rattle.rule_tables.proofs.Walking.{went_as}
use Rattle.rule_tables.proofs.walk.Walk.arms.Goals as goal

pub returns : goal.returns
returns c =
    went_as _ _ _ _ _ (led_to_all c.args.map.now.rows.now way.Arm c.args.row)
    (λ q led. led_from c.args.map.now.rows.now way.Arm c.args.row q (arm_within c.args.map.now.rows.now c.args.row q led) led) c.lead_within.ensures
