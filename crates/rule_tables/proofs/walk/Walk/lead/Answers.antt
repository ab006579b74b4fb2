use Rattle.rule_tables.proofs.Leading.{led_from, led_to_all}
use Rattle.rule_tables.proofs.Walking.{went_as}
use Rattle.rule_tables.proofs.walk.Walk.lead.Goals as goal

pub returns : goal.returns
returns c = went_as _ _ _ _ _ (led_to_all c.args.map.now.rows.now c.args.way c.args.row) (λ q led. led_from c.args.map.now.rows.now c.args.way c.args.row q c.requires led) c.lead_within.ensures
