use Rattle.std.proofs.Common.{length, ◌-◌}
use Rattle.sql_grammar.proofs.parts.CutLoop.{IsCutting}
use Rattle.sql_grammar.proofs.script_parts.cut_part.Given as goal

abbrev pub invariant-loop-cut : goal.invariant-loop-cut
invariant-loop-cut l = record {
  cutting : IsCutting l.is_last l.lexer l.cut l.end l.tokens.items l.count;
}

abbrev pub decreases-loop-cut : goal.decreases-loop-cut
decreases-loop-cut l = length l.cut.text - l.cut.at
