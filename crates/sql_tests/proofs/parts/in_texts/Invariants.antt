use Rattle.sql_grammar.specs.ReadParts.{left_of}
use Rattle.sql_tests.proofs.parts.in_texts.Given as goal

abbrev pub decreases-loop-reader : goal.decreases-loop-reader
decreases-loop-reader l = left_of l.parts
