use Rattle.std.proofs.Common.{◌≡◌, ◌∙◌, ap, arith, length, subst, sym}
use Rattle.squawk_keywords.specs.LetterCase.{compared}
use Rattle.squawk_keywords.specs.TextKeys.{IsOfText, key_of, text_of}
use Rattle.squawk_keywords.proofs.ComparedLemmas.{bytes-compared, length-compared}
use Rattle.squawk_keywords.proofs.TextKeyLemmas.{are-text, text-back}
use Rattle.squawk_keywords.proofs.kept_word.KeptWord.new.Goals as goal

pub invariant_of-result : goal.invariant_of-result
invariant_of-result c =
    let text = compared c.args.ignores_case c.args.word.now in
    let long : length text ≡ length c.args.word.now = length-compared c.args.ignores_case c.args.word.now in
    rw c.key-low.ensures
    (subst (λ len. IsOfText len (key_of text)) long
    (are-text text (bytes-compared c.args.ignores_case c.args.word.now (λ i. omega (arith, c.type_inv.word i))) (omega (arith, long, c.requires))))

pub returns : goal.returns
returns c =
    let text = compared c.args.ignores_case c.args.word.now in
    let long : length text ≡ length c.args.word.now = length-compared c.args.ignores_case c.args.word.now in
    ap (λ one. (one, c.args.kind))
    (ap (λ len. text_of len c.key-low.result) (sym long)
    ∙ text-back text c.key-low.result c.key-low.ensures (bytes-compared c.args.ignores_case c.args.word.now (λ i. omega (arith, c.type_inv.word i))) (omega (arith, long, c.requires)))
