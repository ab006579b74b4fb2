use Rattle.std.proofs.Common.{◌+◌, ◌-◌, ◌*◌, List}
use Rattle.squawk_output.specs.Steps.{Step}
use Rattle.squawk_parser.specs.Recorded.{Puts}
use Rattle.workloads.proofs.statements.+statements.Given as goal

-- Each call of another has fewer tokens left, or as many and a lower rank.
abbrev pub decreases-list : goal.decreases-list
decreases-list l = 4 * (l.p.now.limit - l.p.now.position)

abbrev pub decreases-item : goal.decreases-item
decreases-item l = 4 * (l.p.now.limit - l.p.now.position) + 1

abbrev pub decreases-next_item : goal.decreases-next_item
decreases-next_item l = 4 * (l.p.now.limit - l.p.now.position) + 2

abbrev pub decreases-items : goal.decreases-items
decreases-items l = 4 * (l.p.now.limit - l.p.now.position) + 3

-- steps were put behind what stood
abbrev pub invariant-items-loop-p : goal.invariant-items-loop-p
invariant-items-loop-p l = record { steps : List Step; puts : Puts steps l.initial.p l.p }

-- the tokens that are left
abbrev pub decreases-items-loop-p : goal.decreases-items-loop-p
decreases-items-loop-p l = l.p.limit - l.p.position
