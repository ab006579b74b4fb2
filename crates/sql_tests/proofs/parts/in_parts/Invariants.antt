use Rattle.sql_grammar.specs.ReadParts.{left_of}
use Rattle.sql_tests.proofs.parts.in_parts.Given as goal

abbrev pub decreases-loop-walk : goal.decreases-loop-walk
decreases-loop-walk l = left_of l.parts
