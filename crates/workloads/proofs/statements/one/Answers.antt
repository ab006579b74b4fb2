use Rattle.squawk_parser.proofs.RecordedSteps.{node_puts}
use Rattle.workloads.proofs.statements.one.Goals as goal

pub returns-clause-puts : goal.returns-clause-puts
returns-clause-puts c =
    (_, node_puts c.start-node.ensures.begins c.bump_any.ensures.puts c.complete.ensures.completes)
