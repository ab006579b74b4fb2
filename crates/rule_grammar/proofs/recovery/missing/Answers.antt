use Rattle.std.proofs.Common.{subst, sym}
use Rattle.std.specs.Prelude.{Some}
use Rattle.rule_grammar.specs.Derivations.{Counts}
use Rattle.rule_grammar.proofs.Counted.{counts_known, counts_moved}
use Rattle.rule_grammar.proofs.recovery.missing.Goals as goal

pub returns-then-has_error_at-clause-counts : goal.returns-then-has_error_at-clause-counts
returns-then-has_error_at-clause-counts c =
    subst (λ v. Counts c.args.told.now.place v c.args.p.now c.skip_inside.new.p) (sym c.move_to.ensures)
    (subst (λ v. Counts v (Some c.position-then-has_error_at.result) c.args.p.now c.skip_inside.new.p) (sym (c.has_error_at.ensures c.if-has_error_at.true)) (counts_known c.skip_inside.ensures))

pub returns-else-has_error_at-clause-counts : goal.returns-else-has_error_at-clause-counts
returns-else-has_error_at-clause-counts c =
    subst (λ v. Counts c.args.told.now.place v c.args.p.now c.tell.new.p) (sym c.move_to-else-has_error_at.ensures) (counts_moved c.tell.ensures.counts c.tell.ensures.tells)
