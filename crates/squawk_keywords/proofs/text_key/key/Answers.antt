use Rattle.std.proofs.Common.{◌∙◌, ap, arith, sym}
use Rattle.squawk_keywords.specs.LetterCase.{compared}
use Rattle.squawk_keywords.specs.TextKeys.{key_of}
use Rattle.squawk_keywords.proofs.ComparedLemmas.{key-lowered}
use Rattle.squawk_keywords.proofs.text_key.key.Goals as goal

pub returns-then-ignores_case : goal.returns-then-ignores_case
returns-then-ignores_case c =
    let text = c.args.text.now in
    (λ i. (c.lower_case.ensures i, c.lower_case-then-ignores_case.ensures i))
    ∙ key-lowered text _ _ (λ i. omega (arith, c.type_inv.text i)) c.exact_key-low.ensures
    ∙ ap (λ ignores. key_of (compared ignores text)) (sym c.if-ignores_case.true)
