use Rattle.std.proofs.Common.{◌≡◌, false, length, inl, inr, below_more, arith}
use Rattle.std.proofs.lemmas.Bool.{cases_lt}
use Rattle.rule_checks.proofs.Lists.{lists-past}
use Rattle.rule_checks.proofs.steps.add_after.Goals as goal
use Rattle.rule_checks.proofs.steps.add_after.Goals.{then-mark_next, else-mark_next}

pub loop-k-preserved : goal.loop-k-preserved
loop-k-preserved c = record {
  len = cc (c.mark_next.ensures.len, c.loop-k.invariant.len);
  sound = λ known. c.mark_next.ensures.sound (c.loop-k.invariant.sound known);
  all = λ not_new. elim c.if-mark_next.branch [
    | then-mark_next w ↦ absurd (cc)
    | else-mark_next w ↦
        let same = c.mark_next.ensures.none w.if-mark_next.false in
        let old : c.loop-k.is_new ≡ false = cc (w.is_new-is, not_new) in
        rw same (below_more _ _ (c.loop-k.invariant.all old) (λ j known step. rw (← same) (c.mark_next.ensures.all j known step)))
  ];
  most = elim c.if-mark_next.branch [
    | then-mark_next w ↦ let less = c.mark_next.ensures.more w.if-mark_next.true in omega arith
    | else-mark_next w ↦ let same = c.mark_next.ensures.none w.if-mark_next.false in rw same c.loop-k.invariant.most
  ];
  more = λ is_new. elim c.if-mark_next.branch [
    | then-mark_next w ↦ let less = c.mark_next.ensures.more w.if-mark_next.true in omega arith
    | else-mark_next w ↦
        let same = c.mark_next.ensures.none w.if-mark_next.false in
        rw same (c.loop-k.invariant.more (cc (w.is_new-is, is_new)))
  ];
}

pub returns-clause-all : goal.returns-clause-all
returns-clause-all c not_new i j known step = elim (cases_lt i (length c.args.lists.now)) [
  | inl within ↦ c.loop-k.invariant.all not_new i (omega arith) j known step
  | inr past ↦ absurd (lists-past c.args.lists.now i j past step)
]
