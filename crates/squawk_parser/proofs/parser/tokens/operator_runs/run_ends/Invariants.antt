use Rattle.std.proofs.Common.{◌≡◌, ◌≤◌, length}
use Rattle.squawk_kinds.specs.TokenSets.{has}
use Rattle.squawk_parser.proofs.RunEnds.{end_of, AreEndsFrom}
use Rattle.squawk_parser.proofs.parser.tokens.operator_runs.run_ends.Given as goal

-- the ends of the tokens from this index on are there, and this one's is at hand
abbrev pub invariant-loop-index : goal.invariant-loop-index
invariant-loop-index l = record {
  end : l.end ≡ end_of (has l.operator_first) l.input l.index;
  within : l.end ≤ length l.input;
  ends : AreEndsFrom (has l.operator_first) l.input l.index l.ends.items;
}
