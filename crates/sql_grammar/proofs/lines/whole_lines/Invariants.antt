use Rattle.sql_grammar.proofs.WholeLines.{HasPassed}
use Rattle.sql_grammar.proofs.lines.whole_lines.Given as goal

abbrev pub invariant-loop-end : goal.invariant-loop-end
invariant-loop-end l = HasPassed l.text l.end

abbrev pub decreases-loop-end : goal.decreases-loop-end
decreases-loop-end l = l.end
