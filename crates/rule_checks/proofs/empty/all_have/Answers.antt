use Rattle.std.proofs.Common.{◌≡◌, true, refl, arith}
use Rattle.rule_checks.specs.Rows.{here}
use Rattle.rule_checks.specs.Sets.{has}
use Rattle.rule_checks.proofs.Walks.{passed_all, passed_more, passed_none}
use Rattle.rule_checks.proofs.empty.all_have.Goals as goal

pub loop-at-init : goal.loop-at-init
loop-at-init c = passed_none _ _ _ _

pub loop-at-preserved : goal.loop-at-preserved
loop-at-preserved c = passed_more _ _ _ _ c.loop-at.invariant c.next_at-at.ensures.is (omega arith) tt (λ m marked. marked) (cc)

pub returns-then-not-has : goal.returns-then-not-has
returns-then-not-has c = (
  λ impossible. absurd (cc),
  λ all. let marked : has c.args.marks.now c.loop-at.at ≡ true = all c.loop-at.at (c.loop-at.invariant.goes_on c.loop-at.at (here (omega arith))) in cc,
)

pub returns : goal.returns
returns c = (λ _. passed_all _ _ _ _ c.loop-at.invariant (omega arith), λ _. refl)
