use Rattle.std.proofs.Common.{ℕ, ◌+◌, ◌≤◌, length, take, set, false, get_or, ◌≡◌, ◌&&◌, ◌++◌}
use Rattle.std.specs.Int.{from_bool}
use Rattle.squawk_table.specs.InputView.{entries_in}
use Rattle.squawk_table.specs.ParserInput.{entries_of, input_of, is_followed}
use Rattle.squawk_table.specs.RawTable.{raw_after}
use Rattle.squawk_table.proofs.lexed_str.LexedStr.to_input.Given as goal

-- the entries so far, the last with whether the next raw token follows it
abbrev pub invariant-loop-i : goal.invariant-loop-i
invariant-loop-i g l = record {
  done : entries_in (take l.count l.kinds.items) (take l.count l.contextual_kinds.items)
      (take l.count (set l.joints l.last (l.was_token && is_followed (raw_after l.self l.i))))
      ++ entries_of (g.V.Vocabulary.contextual_keyword l.vocabulary) (raw_after l.self l.i)
      ≡ input_of (g.V.Vocabulary.contextual_keyword l.vocabulary) l.self;
  next : l.count ≡ l.last + from_bool l.was_token;
  within : l.count ≤ l.i;
  kinds : length l.kinds.items ≡ length l.self.kinds;
  contextual_kinds : length l.contextual_kinds.items ≡ length l.self.kinds;
  joints : length l.joints ≡ length l.self.kinds;
  unset : (k : ℕ) → l.last ≤ k → get_or l.joints k false ≡ false;
}
