use Rattle.squawk_parser.proofs.RecordedSteps.{node_puts, puts-then}
use Rattle.workloads.proofs.statements.statement.Goals as goal

pub returns-clause-puts : goal.returns-clause-puts
returns-clause-puts c =
    let inside = puts-then c.bump_any.ensures.puts (puts-then c.rest.ensures.puts.1 c.expect.ensures.puts) in
    (_, node_puts c.start-node.ensures.begins inside c.complete.ensures.completes)
