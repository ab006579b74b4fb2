use Rattle.std.proofs.Common.{◌∙◌, subst, sym}
use Rattle.rule_grammar.specs.Derivations.{Counts}
use Rattle.rule_grammar.proofs.Counted.{counts_near}
use Rattle.rule_grammar.proofs.told.Told.error.Goals as goal

pub returns-else-is_new-clause-counts : goal.returns-else-is_new-clause-counts
returns-else-is_new-clause-counts c =
    subst (λ v. Counts c.args.self.now.place v c.args.p.now c.args.p.now) (sym c.is_new.ensures.place) (counts_near c.requires.sound (sym c.is_new.ensures.is ∙ c.if-is_new.false))
