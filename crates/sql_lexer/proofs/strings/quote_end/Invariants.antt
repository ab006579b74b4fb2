use Rattle.std.proofs.Common.{◌≡◌, ◌-◌, ◌≤◌, length, drop}
use Rattle.sql_lexer.specs.Rules.{past}
use Rattle.sql_lexer.specs.Strings.{quote_end}
use Rattle.sql_lexer.proofs.strings.quote_end.Given as goal

abbrev pub invariant-loop-at : goal.invariant-loop-at
invariant-loop-at l = record {
  within : l.at ≤ length l.text;
  end : past l.at (quote_end l.quote (drop l.at l.text)) ≡ quote_end l.quote l.text;
}

abbrev pub decreases-loop-at : goal.decreases-loop-at
decreases-loop-at l = length l.text - l.at
