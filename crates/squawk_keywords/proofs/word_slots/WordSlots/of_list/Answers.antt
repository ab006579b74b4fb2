use Rattle.std.proofs.Common.{◌+◌, ◌∷◌, ◌++◌, [], ◌∙◌, ap, sym, subst, take}
use Rattle.std.proofs.lemmas.List.{take_all, take_more}
use Rattle.squawk_keywords.specs.KeywordPairs.{pairs_of}
use Rattle.squawk_keywords.specs.LetterCase.{kind_by}
use Rattle.squawk_keywords.specs.WordSlots.{AgreeWith}
use Rattle.squawk_keywords.proofs.AgreeLemmas.{agree_next}
use Rattle.squawk_keywords.proofs.word_slots.WordSlots.of_list.Goals as goal

pub loop-word-preserved : goal.loop-word-preserved
loop-word-preserved c =
    agree_next c.args.ignores_case (take c.loop-word.word-index c.args.pairs.now) (take (c.loop-word.word-index + 1) c.args.pairs.now) c.loop-word-item.result c.add.new.self.slots.items c.add.new.self.words.items
    (take_more c.args.pairs.now c.loop-word.word-index c.loop-word-item.result c.loop-word-test.true ∙ ap (λ word. take c.loop-word.word-index c.args.pairs.now ++ word ∷ []) (sym c.loop-word-item.is))
    (c.add.ensures (kind_by c.args.ignores_case (pairs_of (take c.loop-word.word-index c.args.pairs.now))) c.loop-word.invariant)

pub returns : goal.returns
returns c = subst (λ pairs. AgreeWith c.args.ignores_case (kind_by c.args.ignores_case (pairs_of pairs)) c.loop-word.slots.slots.items c.loop-word.slots.words.items) (take_all c.loop-word.word-index c.args.pairs.now c.loop-word-test.false) c.loop-word.invariant
