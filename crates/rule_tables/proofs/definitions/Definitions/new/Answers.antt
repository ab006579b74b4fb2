use Rattle.std.proofs.Common.{ℕ, ◌+◌, ◌∙◌, arith, is_some, ap, sym}
use Rattle.rule_tables.proofs.ByName.{add_next}
use Rattle.rule_tables.proofs.MoreClasses.{count_class, count_other}
use Rattle.rule_tables.proofs.definitions.Definitions.new.Goals as goal
use Rattle.rule_tables.proofs.definitions.Definitions.new.Goals.{then-is_some, else-is_some}

pub loop-index-preserved : goal.loop-index-preserved
loop-index-preserved c = record {
  number =
      elim c.if-is_some.branch [
        | then-is_some w ↦ w.number-is ∙ ap (λ (n : ℕ). n + 1) c.loop-index.invariant.number
            ∙ sym (count_class c.args.parts.now c.loop-index.index _ c.loop-index-test.true (ap is_some (sym c.size_of_class.ensures) ∙ sym c.is_some.ensures ∙ w.if-is_some.true))
        | else-is_some w ↦ w.number-is ∙ c.loop-index.invariant.number
            ∙ sym (count_other c.args.parts.now c.loop-index.index _ c.loop-index-test.true (ap is_some (sym c.size_of_class.ensures) ∙ sym c.is_some.ensures ∙ w.if-is_some.false))
      ];
  few = elim c.if-is_some.branch [ then-is_some w ↦ omega arith | else-is_some w ↦ omega arith ];
  are = add_next c.args.parts.now c.loop-index.index c.loop-index.number _ c.loop-index.by_name c.add.new.by_name c.loop-index-test.true c.loop-index.invariant.number c.loop-index.invariant.are c.in_ok-add.ensures;
}
