use Rattle.std.proofs.Common.{◌++◌, []}
use Rattle.squawk_parser.proofs.RecordedSteps.{puts-none, puts-then}
use Rattle.workloads.proofs.statements.rest.Goals as goal

pub loop-p-init : goal.loop-p-init
loop-p-init c = record { steps = []; puts = puts-none c.args.p.now c.requires }

pub loop-p-preserved : goal.loop-p-preserved
loop-p-preserved c =
    let before = c.loop-p.invariant in
    let next = c.item.ensures in
    record { steps = before.steps ++ next.puts.0; puts = puts-then before.puts next.puts.1 }
