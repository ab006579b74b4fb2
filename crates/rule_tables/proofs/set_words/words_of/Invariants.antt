use Rattle.std.proofs.Common.{◌≡◌, ℕ, ◌<◌, length, get_or}
use Rattle.rule_tables.specs.Sets.{word_of}
use Rattle.rule_tables.proofs.set_words.words_of.Given as goal

abbrev pub invariant-loop-index : goal.invariant-loop-index
invariant-loop-index l = record {
  len : length l.words ≡ 40;
  words : (n : ℕ) → n < l.index → get_or l.words n 0 ≡ word_of l.set n;
}
