use Rattle.std.proofs.Common.{◌≡◌, ◌<◌, ◌≤◌, ℕ, false, slice_index}
use Rattle.squawk_kinds.specs.Kinds.{is_trivia}
use Rattle.squawk_table.proofs.lexed_str.LexedStr.one_token.Given as goal

abbrev pub invariant-loop-i : goal.invariant-loop-i
invariant-loop-i l = (k : ℕ) → l.raw ≤ k → k < l.i → is_trivia (slice_index l.self.kinds k) ≡ false
