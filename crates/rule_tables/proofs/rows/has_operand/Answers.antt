use Rattle.std.proofs.Common.{◌||◌, ap, sym, ◌∙◌, ◌-◌, ◌+◌, arith}
use Rattle.rule_tables.specs.Rows.{has_operand}
use Rattle.rule_tables.proofs.Operands.{operand_next}
use Rattle.rule_tables.proofs.rows.has_operand.Goals as goal

pub returns-then-is_operand_at : goal.returns-then-is_operand_at
returns-then-is_operand_at c =
    let at = c.loop-left.invariant in
    sym (ap (λ is. is || has_operand c.args.parts.now (c.loop-left.index + 1) (c.loop-left.left - 1)) (sym c.is_operand_at.ensures ∙ c.if-is_operand_at.true))
    ∙ sym (operand_next c.args.parts.now c.loop-left.index c.loop-left.left (omega arith)) ∙ at.is

pub loop-left-preserved : goal.loop-left-preserved
loop-left-preserved c =
    let at = c.loop-left.invariant in
    record {
      is = sym (ap (λ is. is || has_operand c.args.parts.now (c.loop-left.index + 1) (c.loop-left.left - 1)) (sym c.is_operand_at.ensures ∙ c.if-is_operand_at.false))
          ∙ sym (operand_next c.args.parts.now c.loop-left.index c.loop-left.left (omega arith)) ∙ at.is;
      room = omega (arith, at.room);
    }
