use Rattle.std.proofs.Common.{◌-◌, ◌<◌, length, inl, inr, subst, arith}
use Rattle.std.proofs.Math.ListN.{length-set}
use Rattle.rule_checks.specs.Empty.{Empty, empty}
use Rattle.rule_checks.specs.Sets.{has}
use Rattle.rule_checks.proofs.Marks.{fewer, has-set_only, has-unmarked}
use Rattle.rule_checks.proofs.empty.add_empties.Goals as goal

pub loop-k-preserved-then-eats_nothing : goal.loop-k-preserved-then-eats_nothing
loop-k-preserved-then-eats_nothing c =
    let at = c.loop-k.k - 1 in
    let within : at < length c.loop-k.empties = omega arith in
    let unmarked = has-unmarked c.loop-k.empties at within c.if-not-empties-k.true in
    let less = fewer c.loop-k.empties at unmarked in
    record {
      within = omega arith;
      len = simp length-set c.loop-k.invariant.len;
      sound = λ all m marked. elim (has-set_only c.loop-k.empties at m marked) [
        | inl same ↦ subst (Empty c.args.rows.now) same (empty (has c.loop-k.empties) (c.eats_nothing.ensures.0 (cc)) (c.loop-k.invariant.sound all))
        | inr before ↦ c.loop-k.invariant.sound all m before
      ];
      all = λ impossible. absurd (cc);
      most = omega arith;
      more = λ _. omega arith;
    }
