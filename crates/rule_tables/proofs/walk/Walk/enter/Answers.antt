use Rattle.std.proofs.Common.{sym, Some}
use Rattle.rule_tables.specs.Places.{Enters, IsLed}
use Rattle.rule_tables.specs.declared.place.Way.TheVariants as way
use Rattle.rule_tables.proofs.Walking.{went_to}
use Rattle.rule_tables.proofs.walk.Walk.enter.Goals as goal

pub returns-in-Operand : goal.returns-in-Operand
returns-in-Operand c = went_to _ _ (λ part. Enters c.args.map.now.rows.now c.args.row (Some part)) _ (sym c.in-Operand.is) (went_to _ _ (IsLed c.args.map.now.rows.now way.Arm) _ c.from.ensures c.arms-in-Operand.ensures)

pub returns-in-Optional : goal.returns-in-Optional
returns-in-Optional c = went_to _ _ (λ part. Enters c.args.map.now.rows.now c.args.row (Some part)) _ (sym c.in-Optional.is) c.pass_or_go_in.ensures

pub returns-in-Repeat : goal.returns-in-Repeat
returns-in-Repeat c = went_to _ _ (λ part. Enters c.args.map.now.rows.now c.args.row (Some part)) _ (sym c.in-Repeat.is) c.pass_or_go_in-in-Repeat.ensures

pub returns-in-Becomes : goal.returns-in-Becomes
returns-in-Becomes c = went_to _ _ (λ part. Enters c.args.map.now.rows.now c.args.row (Some part)) _ (sym c.in-Becomes.is) c.push.ensures

pub returns-in-Is : goal.returns-in-Is
returns-in-Is c = went_to _ _ (λ part. Enters c.args.map.now.rows.now c.args.row (Some part)) _ (sym c.in-Is.is) c.push-in-Is.ensures

pub returns-in-Guard : goal.returns-in-Guard
returns-in-Guard c = went_to _ _ (λ part. Enters c.args.map.now.rows.now c.args.row (Some part)) _ (sym c.in-Guard.is) c.push-in-Guard.ensures

pub returns-in-Look : goal.returns-in-Look
returns-in-Look c = went_to _ _ (λ part. Enters c.args.map.now.rows.now c.args.row (Some part)) _ (sym c.in-Look.is) c.push-in-Look.ensures

pub returns-in-Nothing : goal.returns-in-Nothing
returns-in-Nothing c = went_to _ _ (λ part. Enters c.args.map.now.rows.now c.args.row (Some part)) _ (sym c.in-Nothing.is) c.push-in-Nothing.ensures

pub returns-in-Choice : goal.returns-in-Choice
returns-in-Choice c = went_to _ _ (λ part. Enters c.args.map.now.rows.now c.args.row (Some part)) _ (sym c.in-Choice.is) c.arms.ensures

pub returns-in-Operators : goal.returns-in-Operators
returns-in-Operators c = went_to _ _ (λ part. Enters c.args.map.now.rows.now c.args.row (Some part)) _ (sym c.in-Operators.is) c.arms-in-Operators.ensures
