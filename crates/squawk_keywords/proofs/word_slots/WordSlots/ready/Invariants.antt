use Rattle.std.proofs.Common.{◌≡◌, length, take, vec_len, vec_capacity}
use Rattle.squawk_keywords.specs.ReadyWords.{kept_of}
use Rattle.squawk_keywords.proofs.word_slots.WordSlots.ready.Given as goal

abbrev pub invariant-loop-row : goal.invariant-loop-row
invariant-loop-row l = record {
  words : l.words.items ≡ kept_of (take l.row-index l.rows);
  len : vec_len l.words ≡ l.row-index;
  room : vec_capacity l.words ≡ length l.rows;
}
