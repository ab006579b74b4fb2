use Rattle.std.proofs.Common.{◌-◌}
use Rattle.sql_grammar.specs.Files.{Runs}
use Rattle.sql_grammar.proofs.AddedFiles.{FileSoFar}
use Rattle.sql_grammar.proofs.SqlGrammarGrammar.entry_point.Given as goal

abbrev pub invariant-loop-p : goal.invariant-loop-p
invariant-loop-p l = record { file : FileSoFar l.fn.self.detail l.initial.p l.p; runs : Runs l.fn.self.detail 3 0 l.initial.p l.p }

abbrev pub decreases-loop-p : goal.decreases-loop-p
decreases-loop-p l = l.p.limit - l.p.position
