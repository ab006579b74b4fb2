use Rattle.std.proofs.Common.{Some, sym}
use Rattle.rule_tables.specs.Places.{AreTold, ComesTwoWays, IsUndecidedRow}
use Rattle.rule_tables.specs.Walks.{plan_of}
use Rattle.rule_tables.proofs.Limited.{err_at, ok_at}
use Rattle.rule_tables.proofs.Other.{decided-other}
use Rattle.rule_tables.proofs.numbers.look.Goals as goal

pub returns-in-Optional-clause-err : goal.returns-in-Optional-clause-err
returns-in-Optional-clause-err c = err_at (λ row. AreTold (ComesTwoWays (plan_of c.args.fork.now.map.now) c.args.fork.now.part (Some row))) _ c.args.fork.now.part c.more_in.result (sym c.in-Optional.is) c.more_in.ensures.err

pub returns-in-Optional-clause-decided : goal.returns-in-Optional-clause-decided
returns-in-Optional-clause-decided c = ok_at (λ row. IsUndecidedRow (plan_of c.args.fork.now.map.now) c.args.fork.now.part (Some row)) _ c.more_in.result (sym c.in-Optional.is) c.more_in.ensures.ok

pub returns-in-Repeat-clause-err : goal.returns-in-Repeat-clause-err
returns-in-Repeat-clause-err c = err_at (λ row. AreTold (ComesTwoWays (plan_of c.args.fork.now.map.now) c.args.fork.now.part (Some row))) _ c.args.fork.now.part c.more_in-in-Repeat.result (sym c.in-Repeat.is) c.more_in-in-Repeat.ensures.err

pub returns-in-Repeat-clause-decided : goal.returns-in-Repeat-clause-decided
returns-in-Repeat-clause-decided c = ok_at (λ row. IsUndecidedRow (plan_of c.args.fork.now.map.now) c.args.fork.now.part (Some row)) _ c.more_in-in-Repeat.result (sym c.in-Repeat.is) c.more_in-in-Repeat.ensures.ok

pub returns-in-Some-clause-err : goal.returns-in-Some-clause-err
returns-in-Some-clause-err c = err_at (λ row. AreTold (ComesTwoWays (plan_of c.args.fork.now.map.now) c.args.fork.now.part (Some row))) _ c.args.fork.now.part c.more_in-in-Some.result (sym c.in-Some.is) c.more_in-in-Some.ensures.err

pub returns-in-Some-clause-decided : goal.returns-in-Some-clause-decided
returns-in-Some-clause-decided c = ok_at (λ row. IsUndecidedRow (plan_of c.args.fork.now.map.now) c.args.fork.now.part (Some row)) _ c.more_in-in-Some.result (sym c.in-Some.is) c.more_in-in-Some.ensures.ok

pub returns-in-List-clause-err : goal.returns-in-List-clause-err
returns-in-List-clause-err c = err_at (λ row. AreTold (ComesTwoWays (plan_of c.args.fork.now.map.now) c.args.fork.now.part (Some row))) _ c.args.fork.now.part c.more.result (sym c.in-List.is) c.more.ensures.err

pub returns-in-List-clause-decided : goal.returns-in-List-clause-decided
returns-in-List-clause-decided c = ok_at (λ row. IsUndecidedRow (plan_of c.args.fork.now.map.now) c.args.fork.now.part (Some row)) _ c.more.result (sym c.in-List.is) c.more.ensures.ok

pub returns-in_default-clause-decided : goal.returns-in_default-clause-decided
returns-in_default-clause-decided c undecided = decided-other (plan_of c.args.fork.now.map.now) c.args.fork.now.part c.args.row.now c.in_default.not-Arm c.in_default.not-Tail c.in_default.not-Optional c.in_default.not-Repeat c.in_default.not-Some c.in_default.not-List undecided.1
