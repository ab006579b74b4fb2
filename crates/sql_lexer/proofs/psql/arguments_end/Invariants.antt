use Rattle.std.proofs.Common.{◌≡◌, ◌+◌, ◌-◌, ◌≤◌, drop, length}
use Rattle.sql_lexer.specs.Psql.{arguments_end}
use Rattle.sql_lexer.specs.declared.psql.Quote.TheVariants.{Outside}
use Rattle.sql_lexer.proofs.psql.arguments_end.Given as goal

abbrev pub invariant-loop-at : goal.invariant-loop-at
invariant-loop-at l = record {
  within : l.at ≤ length l.text;
  so_far : l.at + arguments_end l.quote (drop l.at l.text) ≡ arguments_end Outside l.text;
}

abbrev pub decreases-loop-at : goal.decreases-loop-at
decreases-loop-at l = length l.text - l.at
