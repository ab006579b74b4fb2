use Rattle.std.proofs.Common.{◌-◌, length}
use Rattle.sql_lexer.proofs.TextTokens.{HasCutText}
use Rattle.sql_lexer.proofs.tokenizer.tokenize.Given as goal

abbrev pub invariant-loop-at : goal.invariant-loop-at
invariant-loop-at l = HasCutText l.bytes l.at l.tokens.items

abbrev pub decreases-loop-at : goal.decreases-loop-at
decreases-loop-at l = length l.bytes - l.at
