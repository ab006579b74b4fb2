use Rattle.std.proofs.Common.{◌-◌, ◌<◌, length, arith}
use Rattle.std.proofs.Math.ListN.{length-set}
use Rattle.rule_checks.proofs.Afters.{ended_more}
use Rattle.rule_checks.proofs.Lists.{lists-at}
use Rattle.rule_checks.proofs.Marks.{has-unmarked}
use Rattle.rule_checks.proofs.steps.add_ended.Goals as goal

pub loop-k-preserved-then-all_marked : goal.loop-k-preserved-then-all_marked
loop-k-preserved-then-all_marked c =
    let at = c.loop-k.k - 1 in
    let within : at < length c.loop-k.marks = omega arith in
    let listed : at < length c.args.lists.now = omega arith in
    let unmarked = has-unmarked c.loop-k.marks at within c.if-not-marks-k.true in
    record {
      within = omega arith;
      len = simp length-set c.loop-k.invariant.len;
      ended = λ before. ended_more c.args.lists.now c.loop-k.marks at (c.loop-k.invariant.ended before) unmarked
          (λ m step. c.all_marked.ensures.0 (cc) m (rw c.deref.ensures.value ((lists-at c.args.lists.now at m c.index-lists-k.result listed c.index-lists-k.is).1 step)));
    }
