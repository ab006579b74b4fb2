use Rattle.std.proofs.Common.{◌∙◌, sym}
use Rattle.squawk_kinds.proofs.TokenSetLemmas.{has-no_kinds}
use Rattle.rule_tables.proofs.Other.{row_eats-other}
use Rattle.rule_tables.proofs.eats.kinds_in.Goals as goal

pub returns-in_default : goal.returns-in_default
returns-in_default c kind = has-no_kinds kind ∙ sym (row_eats-other c.args.sets.now c.args.part.now kind c.in_default.not-Token c.in_default.not-Word c.in_default.not-Class c.in_default.not-Name)
