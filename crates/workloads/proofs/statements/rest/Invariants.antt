use Rattle.std.proofs.Common.{◌-◌, List}
use Rattle.squawk_output.specs.Steps.{Step}
use Rattle.squawk_parser.specs.Recorded.{Puts}
use Rattle.workloads.proofs.statements.rest.Given as goal

-- steps were put behind what stood
abbrev pub invariant-loop-p : goal.invariant-loop-p
invariant-loop-p l = record { steps : List Step; puts : Puts steps l.initial.p l.p }

-- the tokens that are left
abbrev pub decreases-loop-p : goal.decreases-loop-p
decreases-loop-p l = l.p.limit - l.p.position
