use Rattle.std.proofs.Common.{◌≡◌, ◌++◌, arith}
use Rattle.squawk_kinds.specs.Kinds.{EOF}
use Rattle.squawk_parser.specs.State.{kind_at}
use Rattle.squawk_parser.proofs.AddedSteps.{Adds-puts, closed-fresh}
use Rattle.squawk_parser.proofs.RecordedSteps.{node_puts, puts-then}
use Rattle.squawk_parser.proofs.WholeSteps.{whole_file}
use Rattle.workloads.proofs.questions.QuestionsGrammar.entry_point.Goals as goal

pub loop-p-preserved : goal.loop-p-preserved
loop-p-preserved c =
    let before = c.loop-p.invariant in
    let next = c.part.ensures in
    record { steps = before.steps ++ next.puts.0; puts = puts-then before.puts next.puts.1 }

pub returns-clause-closed : goal.returns-clause-closed
returns-clause-closed c =
    closed-fresh c.requires.fresh (Adds-puts (node_puts c.start-file.ensures.begins c.loop-p.invariant.puts c.complete.ensures.completes))

-- the loop has ended where the parser sees the end
pub returns-clause-leaves : goal.returns-clause-leaves
returns-clause-leaves c =
    let end : kind_at c.loop-p.p 0 ≡ EOF = grind arith in
    whole_file c.requires.fresh c.start-file.ensures.begins (Adds-puts c.loop-p.invariant.puts) c.complete.ensures.completes end
