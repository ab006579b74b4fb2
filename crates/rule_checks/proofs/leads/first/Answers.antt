use Rattle.std.proofs.Common.{arith}
use Rattle.rule_checks.proofs.Walks.{listed_all, listed_more, listed_none, listed_stops}
use Rattle.rule_checks.proofs.leads.first.Goals as goal

pub loop-at-init : goal.loop-at-init
loop-at-init c = rw c.new-list.ensures.items (listed_none _ _ _ _ _)

pub loop-at-preserved : goal.loop-at-preserved
loop-at-preserved c = listed_more _ _ _ _ _ _ _ c.loop-at.invariant c.in_ok-push.ensures.items c.next_at-at.ensures.is (omega arith)
    ((c.requires c.loop-at.at).0 (cc)) tt

pub returns-then-not-has : goal.returns-then-not-has
returns-then-not-has c m =
    let same = listed_stops _ _ _ _ _ _ _ c.loop-at.invariant c.in_ok-push.ensures.items (omega arith) (λ empty. let marked = (c.requires c.loop-at.at).1 empty in cc) tt m in
    (λ contained. (same.0 contained).0, λ walk. same.1 (walk, tt))

pub returns : goal.returns
returns c m =
    let same = listed_all _ _ _ _ _ _ c.loop-at.invariant (omega arith) m in
    (λ contained. (same.0 contained).0, λ walk. same.1 (walk, tt))
