use Rattle.squawk_kinds.proofs.TokenSetLemmas.{has-bit}
use Rattle.squawk_kinds.proofs.token_set.TokenSet.from_words.Goals as goal

pub returns-clause-kinds : goal.returns-clause-kinds
returns-clause-kinds c k = has-bit c.args.words k
