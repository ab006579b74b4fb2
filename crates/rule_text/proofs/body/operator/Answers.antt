use Rattle.std.proofs.Common.{ap}
use Rattle.rule_text.specs.Written.{is_end}
use Rattle.rule_text.proofs.Bodies.{prefix_decided, tail_read}
use Rattle.rule_text.proofs.Decisions.{decides_by}
use Rattle.rule_text.proofs.body.operator.Goals as goal

pub returns-then-not-is_at : goal.returns-then-not-is_at
returns-then-not-is_at c = prefix_decided c.floor_of-floor.ensures (c.is_at.ensures.is_not c.if-not-is_at.true) c.arm.ensures

pub returns : goal.returns
returns c =
    let there = c.is_at.ensures.is c.if-not-is_at.false in
    decides_by c.wrap.result c.wrap.ensures.wraps c.wrap.ensures.only
    (λ w. tail_read c.floor_of-floor.ensures there (c.bump.ensures (ap is_end there)) c.in_ok-items.ensures.reads c.len-start.ensures c.size_from-size.ensures w)
