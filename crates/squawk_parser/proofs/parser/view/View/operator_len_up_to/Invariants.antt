use Rattle.std.proofs.Common.{◌≡◌, ◌≤◌, ◌-◌}
use Rattle.squawk_parser.proofs.OperatorLength.{longest_from}
use Rattle.squawk_parser.proofs.JointRun.{run_at}
use Rattle.squawk_parser.specs.Operators.{operator_length}
use Rattle.squawk_kinds.specs.TokenSets.{has}
use Rattle.squawk_parser.proofs.parser.view.View.operator_len_up_to.Given as goal

-- the longest name so far and the tokens from here on give the operator's length
abbrev pub invariant-loop-index : goal.invariant-loop-index
invariant-loop-index l =
    let view = l.self-inside in
    record {
      all : longest_from (l.index - view.start) l.has_special l.longest (run_at (has l.operator_first) view.tokens.now.input.now view.limit l.index)
          ≡ operator_length (has l.operator_first) l.self;
      within : l.longest ≤ l.index - view.start;
    }
