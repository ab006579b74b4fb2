use Rattle.std.proofs.Common.{◌≡◌, ◌-◌, ◌≤◌, length, drop}
use Rattle.sql_lexer.specs.Rules.{past}
use Rattle.sql_lexer.specs.Strings.{escape_end}
use Rattle.sql_lexer.proofs.strings.escape_end.Given as goal

abbrev pub invariant-loop-at : goal.invariant-loop-at
invariant-loop-at l = record {
  within : l.at ≤ length l.text;
  end : past l.at (escape_end (drop l.at l.text)) ≡ escape_end l.text;
}

abbrev pub decreases-loop-at : goal.decreases-loop-at
decreases-loop-at l = length l.text - l.at
