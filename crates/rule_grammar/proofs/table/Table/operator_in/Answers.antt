use Rattle.std.proofs.Common.{arith, sym, subst, ℕ}
use Rattle.rule_grammar.specs.Derivations.{Beside}
use Rattle.rule_grammar.specs.Derivations.Beside.{at_first, over_one}
use Rattle.rule_grammar.proofs.table.Table.operator_in.Goals as goal

pub loop-at-init : goal.loop-at-init
loop-at-init c = (omega arith, at_first)

pub loop-at-preserved-else-floor-level : goal.loop-at-preserved-else-floor-level
loop-at-preserved-else-floor-level c = (
  omega (arith, c.beyond-beyond.ensures.later),
  subst (λ (k : ℕ). Beside c.args.self.now.rows.now c.args.rows.start k) (sym c.beyond-beyond.ensures.is) (over_one c.loop-at.invariant.1),
)

pub loop-at-preserved : goal.loop-at-preserved
loop-at-preserved c = (
  omega (arith, c.beyond-beyond.ensures.later),
  subst (λ (k : ℕ). Beside c.args.self.now.rows.now c.args.rows.start k) (sym c.beyond-beyond.ensures.is) (over_one c.loop-at.invariant.1),
)
