use Rattle.std.proofs.Common.{sym}
use Rattle.rule_tables.specs.Places.{Steps}
use Rattle.rule_tables.specs.Walks.{plan_of}
use Rattle.rule_tables.proofs.Walking.{goes_none, goes_to, went_to}
use Rattle.rule_tables.proofs.walk.Walk.go_over.Goals as goal

pub returns-in-Before : goal.returns-in-Before
returns-in-Before c = went_to _ _ (Steps (plan_of c.args.map.now)) _ (sym c.in-Before.is) c.push.ensures

pub returns-in-After : goal.returns-in-After
returns-in-After c = goes_to _ _ (Steps (plan_of c.args.map.now)) (sym c.in-After.is) (goes_none c.args.self.now)

pub returns-in-End : goal.returns-in-End
returns-in-End c = went_to _ _ (Steps (plan_of c.args.map.now)) _ (sym c.in-End.is) c.push-in-End.ensures
