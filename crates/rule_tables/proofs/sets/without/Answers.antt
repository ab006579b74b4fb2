use Rattle.rule_tables.proofs.Without.{has-words_without}
use Rattle.rule_tables.proofs.sets.without.Goals as goal

pub returns : goal.returns
returns c k = rw c.from_words.ensures.words (rw (← c.one.view_is, ← c.other.view_is) (has-words_without c.one.inside.0 c.other.inside.0 k))
