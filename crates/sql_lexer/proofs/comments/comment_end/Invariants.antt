use Rattle.std.proofs.Common.{◌≡◌, ◌-◌, ◌≤◌, length, drop}
use Rattle.sql_lexer.specs.Rules.{past}
use Rattle.sql_lexer.specs.Comments.{comment_end}
use Rattle.sql_lexer.proofs.comments.comment_end.Given as goal

abbrev pub invariant-loop-at : goal.invariant-loop-at
invariant-loop-at l = record {
  within : l.at ≤ length l.text;
  outer : l.outer ≤ l.at;
  end : past l.at (comment_end l.outer (drop l.at l.text)) ≡ comment_end 0 l.text;
}

abbrev pub decreases-loop-at : goal.decreases-loop-at
decreases-loop-at l = length l.text - l.at
