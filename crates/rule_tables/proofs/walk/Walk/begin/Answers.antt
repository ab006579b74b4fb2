use Rattle.rule_tables.specs.Walks.{plan_of, slots}
use Rattle.std.proofs.Common.{◌≡◌, length, arith, refl}
use Rattle.rule_tables.proofs.Marks.{begun}
use Rattle.rule_tables.proofs.walk.Walk.begin.Goals as goal

pub returns-then-self-lt18446744073709551615-clause-ok : goal.returns-then-self-lt18446744073709551615-clause-ok
returns-then-self-lt18446744073709551615-clause-ok c =
    let len : length c.resize.new.self.items ≡ slots (length c.args.map.now.rows.now) = omega (arith, c.in_ok-resize.ensures.len) in
    begun (plan_of c.args.map.now) _ c.args.self.now.marks.items c.args.self.now.number _ _ refl c.in_ok-resize.ensures.items len c.clear.ensures.items c.args.self.now.below
