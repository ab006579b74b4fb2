use Rattle.std.proofs.Common.{◌≡◌, ℕ, take}
use Rattle.squawk_kinds.specs.TokenSets.{has}
use Rattle.squawk_keywords.specs.KeywordPairs.{has_kind, pairs_of}
use Rattle.squawk_keywords.proofs.word_list.kinds_of.Given as goal

abbrev pub invariant-loop-kind : goal.invariant-loop-kind
invariant-loop-kind l = (kind : ℕ) → has l.set kind ≡ has_kind (take l.kind-index (pairs_of l.pairs)) kind
