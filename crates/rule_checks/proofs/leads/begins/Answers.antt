use Rattle.std.proofs.Common.{arith}
use Rattle.rule_checks.proofs.Walks.{listed_all, listed_more, listed_none, listed_over}
use Rattle.rule_checks.proofs.leads.begins.Goals as goal
use Rattle.rule_checks.proofs.leads.begins.Goals.{then-begins_at+in_ok-push, else-begins_at}

pub loop-at-init : goal.loop-at-init
loop-at-init c = rw c.new-list.ensures.items (listed_none _ _ _ _ _)

pub loop-at-preserved : goal.loop-at-preserved
loop-at-preserved c = elim c.if-begins_at.branch [
  | then-begins_at+in_ok-push w ↦
      listed_more _ _ _ _ _ _ _ c.loop-at.invariant (rw w.list-is w.in_ok-push.ensures.items) c.next_at-at.ensures.is (omega arith) tt (c.begins_at.ensures.0 (cc))
  | else-begins_at w ↦
      rw w.list-is (listed_over _ _ _ _ _ _ c.loop-at.invariant c.next_at-at.ensures.is (omega arith) tt (λ begins. let is = c.begins_at.ensures.1 begins in cc))
]

pub returns : goal.returns
returns c = listed_all _ _ _ _ _ _ c.loop-at.invariant (omega arith)
