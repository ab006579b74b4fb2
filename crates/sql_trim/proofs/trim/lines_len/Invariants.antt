use Rattle.sql_trim.proofs.Blanks.{EndLines}
use Rattle.sql_trim.proofs.trim.lines_len.Given as goal

abbrev pub invariant-loop-index : goal.invariant-loop-index
invariant-loop-index l = EndLines l.white_space l.len l.index
