use Rattle.std.proofs.Common.{take}
use Rattle.squawk_keywords.specs.KeywordPairs.{AreKeywords, pairs_of}
use Rattle.squawk_keywords.proofs.keywords.first_other.Given as goal

abbrev pub invariant-loop-index : goal.invariant-loop-index
invariant-loop-index l = AreKeywords (take l.index (pairs_of l.pairs))
