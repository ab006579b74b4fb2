use Rattle.std.proofs.Common.{◌<◌, length, arith}
use Rattle.rule_source.proofs.Names.{same_at, same_more}
use Rattle.rule_source.proofs.same.are_same_names.Goals as goal

pub returns-then-not-is_same_name : goal.returns-then-not-is_same_name
returns-then-not-is_same_name c =
    let len = c.loop-index.invariant.len in
    let within : c.loop-index.index < length c.args.other.now = omega arith in (
      λ same. absurd (cc),
      λ same.
          let at = same_at c.args.one.now c.args.other.now c.loop-index.index c.index-one-index.result c.index-other-index.result
          c.index-one-index.is c.index-other-index.is c.loop-index-test.true within same in
          let is = c.is_same_name.ensures.1 at in
          cc (is, c.if-not-is_same_name.true),
    )

pub loop-index-preserved : goal.loop-index-preserved
loop-index-preserved c =
    let len = c.loop-index.invariant.len in
    let within : c.loop-index.index < length c.args.other.now = omega arith in
    record {
      len = len;
      begun = same_more c.args.one.now c.args.other.now c.loop-index.index c.index-one-index.result c.index-other-index.result
          c.index-one-index.is c.index-other-index.is c.loop-index-test.true within
          c.loop-index.invariant.begun (c.is_same_name.ensures.0 c.if-not-is_same_name.false);
    }
