use Rattle.std.proofs.Common.{◌≡◌, ◌-◌, ◌≤◌, length}
use Rattle.squawk_table.specs.RawTable.{raw_after}
use Rattle.squawk_table.specs.Sent.{past_trivia}
use Rattle.squawk_table.proofs.lexed_str.LexedStr.past_trivia.Given as goal

abbrev pub invariant-loop-raw : goal.invariant-loop-raw
invariant-loop-raw l = record {
  within : l.raw ≤ length l.self.kinds;
  past : past_trivia (raw_after l.self l.raw) ≡ past_trivia (raw_after l.self l.from);
}

abbrev pub decreases-loop-raw : goal.decreases-loop-raw
decreases-loop-raw l = length l.self.kinds - l.raw
