use Rattle.std.proofs.Common.{arith}
use Rattle.squawk_kinds.proofs.TokenSetLemmas.{has-shifted, has-other}
use Rattle.squawk_kinds.proofs.token_set.TokenSet.contains.Goals as goal

pub returns-then-number-lt640 : goal.returns-then-number-lt640
returns-then-number-lt640 c = grind (arith, has-shifted)

pub returns-else-number-lt640 : goal.returns-else-number-lt640
returns-else-number-lt640 c = grind (arith, has-other)
