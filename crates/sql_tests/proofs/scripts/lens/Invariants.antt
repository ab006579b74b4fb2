use Rattle.std.proofs.Common.{length, ◌-◌}
use Rattle.sql_tests.proofs.scripts.lens.Given as goal

abbrev pub decreases-loop-lexer : goal.decreases-loop-lexer
decreases-loop-lexer l = length l.lexer.text - l.lexer.at
