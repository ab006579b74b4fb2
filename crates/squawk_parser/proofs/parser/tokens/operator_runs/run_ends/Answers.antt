use Rattle.std.proofs.Common.{◌≡◌, ◌<◌, ◌≤◌, ◌∙◌, ◌-◌, suc, replicate, length, arith, ap, sym, subst}
use Rattle.std.proofs.lemmas.List.{length-replicate}
use Rattle.squawk_kinds.specs.TokenSets.{has}
use Rattle.squawk_parser.proofs.RunEnds.{AreEndsFrom, end_of, end_of-limit, end_of-other, end_of-last, end_of-next, ends_more, all_ends}
use Rattle.squawk_parser.proofs.parser.tokens.operator_runs.run_ends.Goals as goal
use Rattle.squawk_parser.proofs.parser.tokens.operator_runs.run_ends.Goals.{Joined-not-contains, then-not-contains, else-not-contains+then-not-is_joint, else-not-contains+else-not-is_joint}

pub loop-index-init : goal.loop-index-init
loop-index-init c =
    let operator_kind = has c.args.operator_first.now in
    let input = c.args.input.now in
    let zeros : c.in_ok-ends.ends.items ≡ replicate c.len-len.result 0 = c.in_ok-ends.ensures.items_if_clones_equal (λ y same. same) in
    record {
      end = rw c.len-len.ensures.len (sym (end_of-limit operator_kind input));
      within = omega (arith, c.len-len.ensures.len);
      ends = record { count = ap length zeros ∙ (length-replicate c.len-len.result 0 ∙ c.len-len.ensures.len); at = λ k from to. absurd (omega (arith, c.len-len.ensures.len)) };
    }

-- the end does not come to lie past the input
within_here : (c : Joined-not-contains) → c.if-not-contains.end ≤ length c.args.input.now
within_here c =
    let before = c.loop-index.invariant.within in
    elim c.if-not-contains.branch [
      | then-not-contains w ↦ omega (arith, w.end-is, c.len-len.ensures.len, c.loop-index-test.true)
      | else-not-contains+then-not-is_joint w ↦ omega (arith, w.end-is, c.len-len.ensures.len, c.loop-index-test.true)
      | else-not-contains+else-not-is_joint w ↦ omega (arith, w.end-is, before)
    ]

pub overflow_cast-end : goal.overflow_cast-end
overflow_cast-end c = let le = within_here (goal.at.overflow_cast-end c).Joined-not-contains in omega (arith, le, c.requires)

-- what the turn makes of the end
end_here : (c : Joined-not-contains) → c.if-not-contains.end ≡ end_of (has c.args.operator_first.now) c.args.input.now (c.loop-index.index - 1)
end_here c =
    let operator_kind = has c.args.operator_first.now in
    let input = c.args.input.now in
    let index = c.loop-index.index - 1 in
    let before = c.loop-index.invariant in
    let below : index < length input = omega (arith, c.loop-index-test.true, c.len-len.ensures.len) in
    let next : suc index ≡ c.loop-index.index = omega (arith, c.loop-index-test.true) in
    let kind = sym (ap operator_kind c.kind.ensures) ∙ sym c.contains.ensures in
    elim c.if-not-contains.branch [
      | then-not-contains w ↦ w.end-is ∙ sym (end_of-other operator_kind input index below (kind ∙ w.if-not-contains.true))
      | else-not-contains+then-not-is_joint w ↦
          w.end-is ∙ sym (end_of-last operator_kind input index below (kind ∙ w.if-not-contains.false) (sym w.is_joint.ensures ∙ w.if-not-is_joint.true))
      | else-not-contains+else-not-is_joint w ↦
          w.end-is ∙ (before.end ∙ (ap (end_of operator_kind input) (sym next)
          ∙ sym (end_of-next operator_kind input index below (kind ∙ w.if-not-contains.false) (sym w.is_joint.ensures ∙ w.if-not-is_joint.false))))
    ]

pub loop-index-preserved : goal.loop-index-preserved
loop-index-preserved c =
    let operator_kind = has c.args.operator_first.now in
    let input = c.args.input.now in
    let index = c.loop-index.index - 1 in
    let end = end_here (goal.at.loop-index-preserved c).Joined-not-contains in
    let next : c.loop-index.index ≡ suc index = omega (arith, c.loop-index-test.true) in
    record {
      end = end;
      within = within_here (goal.at.loop-index-preserved c).Joined-not-contains;
      ends = ends_more operator_kind input index c.loop-index.ends.items c.if-not-contains.end (omega (arith, c.loop-index-test.true, c.len-len.ensures.len))
          (subst (λ from. AreEndsFrom operator_kind input from c.loop-index.ends.items) next c.loop-index.invariant.ends) end;
    }

pub returns : goal.returns
returns c =
    let operator_kind = has c.args.operator_first.now in
    let first : c.loop-index.index ≡ 0 = omega (arith, c.loop-index-test.false) in
    all_ends operator_kind c.args.input.now c.loop-index.ends.items
    (subst (λ from. AreEndsFrom operator_kind c.args.input.now from c.loop-index.ends.items) first c.loop-index.invariant.ends)
