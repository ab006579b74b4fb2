use Rattle.std.proofs.Common.{refl, arith}
use Rattle.rule_checks.specs.Rows.{here}
use Rattle.rule_checks.proofs.Walks.{passed_all, passed_more, passed_none}
use Rattle.rule_checks.proofs.empty.some_arm_has.Goals as goal
use Rattle.rule_checks.proofs.empty.some_arm_has.Goals.{else-is_arm-via-then-is_arm+else-has, else-is_arm-via-else-is_arm}

pub loop-at-init : goal.loop-at-init
loop-at-init c = passed_none _ _ _ _

pub loop-at-preserved : goal.loop-at-preserved
loop-at-preserved c = passed_more _ _ _ _ c.loop-at.invariant c.next_at-at.ensures.is (omega arith) tt (λ m neither. neither)
    (λ arm marked. elim c.else-is_arm.branch [
      | else-is_arm-via-then-is_arm+else-has w ↦ cc
      | else-is_arm-via-else-is_arm w ↦ let is = c.is_arm.ensures.1 arm in cc
    ])

pub returns-then-has : goal.returns-then-has
returns-then-has c = (λ _. (c.loop-at.at, c.loop-at.invariant.goes_on c.loop-at.at (here (omega arith)), c.is_arm.ensures.0 (cc), cc), λ _. refl)

pub returns : goal.returns
returns c = (λ impossible. absurd (cc), λ some. absurd (passed_all _ _ _ _ c.loop-at.invariant (omega arith) some.0 some.1 some.2 some.3))
