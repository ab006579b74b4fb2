use Rattle.std.proofs.Common.{◌∙◌, subst, sym}
use Rattle.squawk_keywords.specs.KeywordPairs.{AreKeywords}
use Rattle.squawk_keywords.proofs.KindLemmas.{all_words, first_other-at, keywords-next}
use Rattle.squawk_keywords.proofs.keywords.first_other.Goals as goal

pub loop-index-preserved : goal.loop-index-preserved
loop-index-preserved c =
    keywords-next c.args.pairs.now c.loop-index.index c.index-pairs-index.result c.loop-index-test.true c.index-pairs-index.is c.loop-index.invariant (c.is_keyword.ensures.0 c.if-not-is_keyword.false)

pub returns-then-not-is_keyword : goal.returns-then-not-is_keyword
returns-then-not-is_keyword c =
    first_other-at c.args.pairs.now c.loop-index.index c.index-pairs-index.result c.loop-index-test.true c.index-pairs-index.is c.loop-index.invariant
    (λ keyword. absurd (let p = sym c.if-not-is_keyword.true ∙ c.is_keyword.ensures.1 keyword in cc))

pub returns : goal.returns
returns c = subst AreKeywords (all_words c.args.pairs.now c.loop-index.index c.loop-index-test.false) c.loop-index.invariant
