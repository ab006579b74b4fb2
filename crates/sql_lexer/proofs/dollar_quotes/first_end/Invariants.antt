use Rattle.std.proofs.Common.{◌≡◌, drop}
use Rattle.sql_lexer.specs.Rules.{past}
use Rattle.sql_lexer.specs.DollarQuotes.{first_end}
use Rattle.sql_lexer.proofs.dollar_quotes.first_end.Given as goal

abbrev pub invariant-loop-at : goal.invariant-loop-at
invariant-loop-at l = past l.at (first_end l.tag (drop l.at l.text)) ≡ first_end l.tag l.text
