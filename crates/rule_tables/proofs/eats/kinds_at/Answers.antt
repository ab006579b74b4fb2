use Rattle.squawk_kinds.proofs.TokenSetLemmas.{has-no_kinds}
use Rattle.rule_tables.proofs.eats.kinds_at.Goals as goal

pub loop-place-init : goal.loop-place-init
loop-place-init c kind = has-no_kinds kind
