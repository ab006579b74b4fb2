use Rattle.std.proofs.Common.{◌<◌, ◌*◌, ℕ}
use Rattle.squawk_kinds.specs.TokenSets.{has}
use Rattle.squawk_parser.specs.OperatorRuns.{IsInRun}
use Rattle.squawk_parser.proofs.parser.tokens.operator_runs.has_long_run.Given as goal

-- no block so far is in a run
abbrev pub invariant-loop-block : goal.invariant-loop-block
invariant-loop-block l = (block : ℕ) → block < l.block → IsInRun (has l.operator_first) l.input (block * 16) → ⊥
