use Rattle.std.proofs.Common.{◌≡◌, length, take, vec_len, vec_capacity}
use Rattle.squawk_keywords.proofs.sorted_words.numbered.Given as goal

abbrev pub invariant-loop-word : goal.invariant-loop-word
invariant-loop-word l = record {
  words : l.words.items ≡ take l.word-index l.pairs;
  len : vec_len l.words ≡ l.word-index;
  room : vec_capacity l.words ≡ length l.pairs;
}
