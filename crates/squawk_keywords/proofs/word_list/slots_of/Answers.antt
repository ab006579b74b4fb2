use Rattle.std.proofs.Common.{◌≡◌, subst}
use Rattle.squawk_keywords.specs.KeywordPairs.{pairs_of}
use Rattle.squawk_keywords.specs.LetterCase.{kind_by}
use Rattle.squawk_keywords.specs.WordSlots.{AgreeWith}
use Rattle.squawk_keywords.proofs.word_list.slots_of.Goals as goal

pub returns-clause-agree : goal.returns-clause-agree
returns-clause-agree c = λ s some.
    let one : c.in_ok-slots.slots ≡ s = cc in
    subst (λ found. AgreeWith c.args.ignores_case (kind_by c.args.ignores_case (pairs_of c.args.pairs.now)) found.slots.items found.words.items) one c.in_ok-slots.ensures
