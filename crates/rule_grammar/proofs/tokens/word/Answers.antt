use Rattle.rule_grammar.proofs.Counted.{counts_then, counts_some}
use Rattle.rule_grammar.proofs.tokens.word.Goals as goal

pub returns-else-is_word-clause-counts : goal.returns-else-is_word-clause-counts
returns-else-is_word-clause-counts c = counts_then c.missing.ensures.counts (counts_some c.bump_word.ensures)
