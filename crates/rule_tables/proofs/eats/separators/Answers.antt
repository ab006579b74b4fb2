use Rattle.std.proofs.Common.{◌∙◌, sym}
use Rattle.squawk_kinds.proofs.TokenSetLemmas.{has-no_kinds}
use Rattle.rule_tables.proofs.Other.{separates-other}
use Rattle.rule_tables.proofs.eats.separators.Goals as goal

pub returns-in_default : goal.returns-in_default
returns-in_default c kind = has-no_kinds kind ∙ sym (separates-other c.args.part.now kind c.in_default.not-List)
