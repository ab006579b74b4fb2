use Rattle.std.proofs.Common.{◌∙◌, ap, sym}
use Rattle.std.specs.Prelude.{◌==◌, ◌||◌}
use Rattle.std.proofs.Math.Bool.{or-false}
use Rattle.squawk_kinds.proofs.TokenSetLemmas.{has-no_kinds}
use Rattle.squawk_keywords.specs.KeywordPairs.{has_kind}
use Rattle.squawk_keywords.proofs.KindLemmas.{all_words, has_kind-next, keyword-at, one_kind}
use Rattle.squawk_keywords.proofs.word_list.kinds_of.Goals as goal

pub loop-kind-init : goal.loop-kind-init
loop-kind-init c = has-no_kinds

pub new-requires : goal.new-requires
new-requires c = one_kind c.loop-kind-item.result.1 (keyword-at c.args.pairs.now c.loop-kind.kind-index c.loop-kind-item.result c.loop-kind-test.true c.loop-kind-item.is c.requires)

pub loop-kind-preserved : goal.loop-kind-preserved
loop-kind-preserved c = λ kind.
    c.union-set.ensures kind
    ∙ (λ i. c.loop-kind.invariant kind i || (c.new.ensures kind ∙ or-false (c.loop-kind-item.result.1 == kind)) i)
    ∙ sym (has_kind-next c.args.pairs.now c.loop-kind.kind-index c.loop-kind-item.result c.loop-kind-test.true c.loop-kind-item.is kind)

pub returns : goal.returns
returns c = λ kind. c.loop-kind.invariant kind ∙ ap (λ pairs. has_kind pairs kind) (all_words c.args.pairs.now c.loop-kind.kind-index c.loop-kind-test.false)
