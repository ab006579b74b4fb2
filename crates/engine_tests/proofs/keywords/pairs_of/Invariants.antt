use Rattle.std.proofs.Common.{◌≡◌, length, vec_capacity, vec_len}
use Rattle.engine_tests.proofs.keywords.pairs_of.Given as goal

abbrev pub invariant-loop-word : goal.invariant-loop-word
invariant-loop-word g l = record { len : vec_len l.pairs ≡ l.word-index; room : vec_capacity l.pairs ≡ length l.words }
