use Rattle.std.proofs.Common.{subst, sym}
use Rattle.std.specs.Prelude.{IfSome}
use Rattle.squawk_kinds.specs.Kinds.{IsKeyword}
use Rattle.squawk_keywords.specs.KeywordPairs.{pairs_of}
use Rattle.squawk_keywords.specs.LetterCase.{kind_by}
use Rattle.squawk_keywords.specs.WordSlots.{AgreeWith}
use Rattle.squawk_keywords.proofs.AgreeLemmas.{keyword-found, agree_alike, unless_refused}
use Rattle.squawk_keywords.proofs.word_list.WordList.new.Goals as goal

pub invariant_of-result-clause-keywords : goal.invariant_of-result-clause-keywords
invariant_of-result-clause-keywords c = λ text.
    subst (λ found. IfSome found IsKeyword) (sym (c.in_ok-words.ensures.kinds text)) (keyword-found c.args.ignores_case (pairs_of c.args.pairs.now) text c.requires)

pub invariant_of-result-clause-agree : goal.invariant_of-result-clause-agree
invariant_of-result-clause-agree c = λ s some.
    agree_alike c.args.ignores_case (kind_by c.args.ignores_case (pairs_of c.args.pairs.now)) (kind_by c.args.ignores_case (pairs_of c.in_ok-words.words.items)) s.slots.items s.words.items
    c.in_ok-words.ensures.kinds
    (unless_refused (λ found. AgreeWith c.args.ignores_case (kind_by c.args.ignores_case (pairs_of c.args.pairs.now)) found.slots.items found.words.items) c.slots_of.result _ c.unwrap_or.ensures
    c.slots_of.ensures.agree s some)
