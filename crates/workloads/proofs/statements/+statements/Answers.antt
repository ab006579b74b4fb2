use Rattle.std.proofs.Common.{◌++◌, []}
use Rattle.squawk_parser.proofs.RecordedSteps.{node_puts, puts-none, puts-then}
use Rattle.workloads.proofs.statements.+statements.Goals as goal

pub items-loop-p-init : goal.items-loop-p-init
items-loop-p-init t c = record { steps = []; puts = puts-none c.args.p.now c.requires }

pub items-loop-p-preserved : goal.items-loop-p-preserved
items-loop-p-preserved t c =
    let before = c.loop-p.invariant in
    let next = c.next_item.ensures in
    record { steps = before.steps ++ next.puts.0; puts = puts-then before.puts next.puts.1 }

pub list-returns-clause-puts : goal.list-returns-clause-puts
list-returns-clause-puts t c =
    let inside = puts-then c.bump_any.ensures.puts (puts-then c.items.ensures.puts.1 c.expect.ensures.puts) in
    (_, node_puts c.start-node.ensures.begins inside c.complete.ensures.completes)

pub next_item-returns-clause-puts : goal.next_item-returns-clause-puts
next_item-returns-clause-puts t c = (_, puts-then c.item.ensures.puts.1 c.comma.ensures.puts.1)
