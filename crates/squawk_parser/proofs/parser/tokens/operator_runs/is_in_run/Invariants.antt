use Rattle.std.proofs.Common.{◌<◌, ◌≤◌, ◌&&◌, ℕ}
use Rattle.std.specs.Prelude.{IsTrue}
use Rattle.squawk_kinds.specs.TokenSets.{has}
use Rattle.squawk_table.specs.ParserInput.{kind_in, is_joint_in}
use Rattle.squawk_parser.proofs.parser.tokens.operator_runs.is_in_run.Given as goal

-- so far each does
abbrev pub invariant-loop-i : goal.invariant-loop-i
invariant-loop-i l = (k : ℕ) → l.fn.start ≤ k → k < l.i → IsTrue (is_joint_in l.input k && has l.operator_first (kind_in l.input k))
