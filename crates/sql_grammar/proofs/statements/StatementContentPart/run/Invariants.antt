use Rattle.std.proofs.Common.{◌-◌}
use Rattle.sql_grammar.proofs.AddedStatements.{Opened}
use Rattle.sql_grammar.proofs.statements.StatementContentPart.run.Given as goal

abbrev pub invariant-loop-p : goal.invariant-loop-p
invariant-loop-p l = Opened l.fn.self.detail l.fn.self.kind l.fn.self.len l.kind l.fn.p l.p

abbrev pub decreases-loop-p : goal.decreases-loop-p
decreases-loop-p l = l.p.limit - l.p.position
