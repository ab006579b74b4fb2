use Rattle.std.proofs.Common.{◌≡◌, subst, true}
use Rattle.squawk_keywords.specs.KeywordPairs.{pairs_of}
use Rattle.squawk_keywords.specs.LetterCase.{kind_by}
use Rattle.squawk_keywords.specs.WordSlots.{AgreeWith}
use Rattle.squawk_keywords.proofs.AgreeLemmas.{keyword-found}
use Rattle.squawk_keywords.proofs.word_list.WordList.ready.Goals as goal

pub invariant_of-result-clause-keywords : goal.invariant_of-result-clause-keywords
invariant_of-result-clause-keywords c = λ text.
    rw c.in_ok-from_slice.ensures.items (keyword-found true (pairs_of c.args.tables.now.words.now) text c.requires.keywords)

pub invariant_of-result-clause-agree : goal.invariant_of-result-clause-agree
invariant_of-result-clause-agree c = λ s some.
    let one : c.in_ok-slots.slots ≡ s = cc in
    subst (λ found. AgreeWith true (kind_by true (pairs_of c.in_ok-from_slice.field-0.items)) found.slots.items found.words.items) one
    (rw (c.in_ok-from_slice.ensures.items, c.in_ok-slots.ensures.slots, c.in_ok-slots.ensures.words) c.requires.agree)
