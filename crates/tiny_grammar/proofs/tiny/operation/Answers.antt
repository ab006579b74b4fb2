use Rattle.std.proofs.Common.{arith}
use Rattle.squawk_output.specs.Steps.{eaten}
use Rattle.squawk_parser.specs.State.{ahead}
use Rattle.squawk_parser.proofs.AddedSteps.{node_before}
use Rattle.squawk_parser.proofs.RecordedSteps.{Keeps-then}
use Rattle.squawk_parser.proofs.SeenSteps.{ahead-moved}
use Rattle.tiny_grammar.specs.Expressions.{right_steps}
use Rattle.tiny_grammar.proofs.Expression.{operation_adds, operation_records}
use Rattle.tiny_grammar.proofs.tiny.operation.Goals as goal

pub returns-clause-adds : goal.returns-clause-adds
returns-clause-adds c begun steps adds =
    let before = c.precede-node.ensures.precedes in
    let done = c.complete.ensures in
    node_before adds before (operation_adds before c.operator.ensures c.operand.ensures.adds) done.completes done.node

pub returns-clause-records : goal.returns-clause-records
returns-clause-records c = operation_records c.precede-node.ensures.precedes c.operator.ensures c.operand.ensures.records c.complete.ensures.completes

pub returns-clause-behind : goal.returns-clause-behind
returns-clause-behind c =
    let before = c.precede-node.ensures.precedes in
    let done = c.complete.ensures.completes in
    let right = operation_adds before c.operator.ensures c.operand.ensures.adds in
    ahead-moved (eaten (right_steps (ahead c.args.p.now 0))) (Keeps-then before.keeps (Keeps-then right.keeps done.keeps))
    (omega (arith, done.position, right.position, before.position))
