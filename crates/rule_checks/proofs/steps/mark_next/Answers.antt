use Rattle.std.proofs.Common.{inl, inr}
use Rattle.rule_checks.specs.Steps.{Lists}
use Rattle.rule_checks.proofs.Afters.{after_step}
use Rattle.rule_checks.proofs.Lists.{lists-at}
use Rattle.rule_checks.proofs.steps.mark_next.Goals as goal
use Rattle.rule_checks.proofs.steps.mark_next.Goals.{then-k-from, else-k-from}

pub returns-then-has-clause-sound : goal.returns-then-has-clause-sound
returns-then-has-clause-sound c known m within marked = elim ((c.mark_all.ensures.marked m).0 marked) [
  | inl before ↦ known m within before
  | inr contained ↦ after_step (Lists c.args.lists.now) c.args.from c.args.k m
      (elim c.if-k-from.branch [ then-k-from w ↦ inl w.if-k-from.true | else-k-from w ↦ inr (known c.args.k c.requires (cc)) ])
      ((lists-at c.args.lists.now c.args.k m c.index-lists-k.result c.requires c.index-lists-k.is).0 (rw c.deref.ensures.value at contained))
]

pub returns-then-has-clause-all : goal.returns-then-has-clause-all
returns-then-has-clause-all c j known step =
    (c.mark_all.ensures.marked j).1 (inr (rw c.deref.ensures.value ((lists-at c.args.lists.now c.args.k j c.index-lists-k.result c.requires c.index-lists-k.is).1 step)))
