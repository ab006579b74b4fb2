use Rattle.std.proofs.Common.{arith, refl, sym, subst, ◌∙◌, ℕ}
use Rattle.rule_grammar.specs.Derivations.{Beside}
use Rattle.rule_grammar.specs.Derivations.Beside.{at_first, over_one}
use Rattle.rule_grammar.proofs.table.Table.arm.Goals as goal

pub loop-at-init : goal.loop-at-init
loop-at-init c = (omega arith, at_first, refl)

pub loop-at-preserved : goal.loop-at-preserved
loop-at-preserved c = (
  omega (arith, c.beyond-beyond.ensures.later),
  subst (λ (k : ℕ). Beside c.args.self.now.rows.now c.args.rows.start k) (sym c.beyond-beyond.ensures.is) (over_one c.loop-at.invariant.1),
  c.loop-at.invariant.2,
)

pub loop-at-preserved-else-takes : goal.loop-at-preserved-else-takes
loop-at-preserved-else-takes c = (
  omega (arith, c.beyond-beyond.ensures.later),
  subst (λ (k : ℕ). Beside c.args.self.now.rows.now c.args.rows.start k) (sym c.beyond-beyond.ensures.is) (over_one c.loop-at.invariant.1),
  c.takes.ensures ∙ c.loop-at.invariant.2,
)

pub returns-then-takes-clause-told : goal.returns-then-takes-clause-told
returns-then-takes-clause-told c = c.takes.ensures ∙ (c.loop-at.invariant.2 ∙ c.symbol-symbol.ensures)

pub returns-clause-told : goal.returns-clause-told
returns-clause-told c = c.loop-at.invariant.2 ∙ c.symbol-symbol.ensures
