use Rattle.std.proofs.Common.{◌≡◌, vec_capacity}
use Rattle.squawk_script.specs.Accepted.{markers_of}
use Rattle.squawk_script.proofs.Runs.{Stands}
use Rattle.squawk_script.proofs.run.run_calls.Given as goal

abbrev pub invariant-loop-call : goal.invariant-loop-call
invariant-loop-call l = Stands l.initial.p l.calls l.p l.slots.items l.call-index × (vec_capacity l.slots ≡ markers_of l.calls)
