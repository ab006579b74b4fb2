use Rattle.squawk_parser.proofs.AddedSteps.{node-added}
use Rattle.tiny_grammar.proofs.Expression.{at-operator, expressing-all, expressing-fewer, expressing-first, expressing-records, expressing-next, expressing-rest}
use Rattle.tiny_grammar.proofs.tiny.expression.Goals as goal

pub loop-left-init : goal.loop-left-init
loop-left-init c = expressing-first c.operand-left.ensures.adds c.operand-left.ensures.records

pub operation-left-requires-clause-at_hand : goal.operation-left-requires-clause-at_hand
operation-left-requires-clause-at_hand c = node-added c.loop-left.invariant.puts

pub loop-left-smaller : goal.loop-left-smaller
loop-left-smaller c =
    expressing-fewer c.loop-left.p c.operation-left.new.p (at-operator c.requires c.loop-left.invariant c.at.ensures c.loop-left-test.true) c.operation-left.ensures.behind

pub loop-left-preserved : goal.loop-left-preserved
loop-left-preserved c =
    expressing-next c.loop-left.p c.operation-left.new.p (at-operator c.requires c.loop-left.invariant c.at.ensures c.loop-left-test.true) c.operation-left.ensures.behind c.loop-left.invariant
    (c.operation-left.ensures.adds _ _ c.loop-left.invariant.puts) c.operation-left.ensures.records

pub returns-clause-adds : goal.returns-clause-adds
returns-clause-adds c = expressing-all (at-operator c.requires c.loop-left.invariant c.at.ensures c.loop-left-test.false) c.loop-left.invariant

pub returns-clause-records : goal.returns-clause-records
returns-clause-records c = expressing-records (at-operator c.requires c.loop-left.invariant c.at.ensures c.loop-left-test.false) c.loop-left.invariant

pub returns-clause-rest : goal.returns-clause-rest
returns-clause-rest c = expressing-rest (at-operator c.requires c.loop-left.invariant c.at.ensures c.loop-left-test.false) c.loop-left.invariant
