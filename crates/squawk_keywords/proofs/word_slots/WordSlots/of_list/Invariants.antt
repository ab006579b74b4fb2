use Rattle.std.proofs.Common.{take}
use Rattle.squawk_keywords.specs.KeywordPairs.{pairs_of}
use Rattle.squawk_keywords.specs.LetterCase.{kind_by}
use Rattle.squawk_keywords.specs.WordSlots.{AgreeWith}
use Rattle.squawk_keywords.proofs.word_slots.WordSlots.of_list.Given as goal

abbrev pub invariant-loop-word : goal.invariant-loop-word
invariant-loop-word l = AgreeWith l.ignores_case (kind_by l.ignores_case (pairs_of (take l.word-index l.pairs))) l.slots.slots.items l.slots.words.items
