use Rattle.rule_tables.proofs.Cuts.{adds_none, adds_one}
use Rattle.rule_tables.proofs.Walking.{on_ok_as}
use Rattle.rule_tables.proofs.groups.push_some.Goals as goal

pub returns-then-is_empty : goal.returns-then-is_empty
returns-then-is_empty c = adds_none c.args.sets.now.items c.args.set (c.is_empty.ensures c.if-is_empty.true)

pub returns-else-is_empty : goal.returns-else-is_empty
returns-else-is_empty c = on_ok_as c.push.result (λ is. adds_one c.args.sets.now.items c.push.new.list.items c.args.set is) c.push.ensures
