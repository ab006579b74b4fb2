use Rattle.squawk_kinds.proofs.TokenSetLemmas.{has-no_kinds}
use Rattle.rule_tables.proofs.eats.kinds_of.Goals as goal

pub returns-in-After : goal.returns-in-After
returns-in-After c kind = rw c.in-After.is (has-no_kinds kind)
