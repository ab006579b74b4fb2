use Rattle.std.proofs.Common.{◌≡◌, ◌∙◌, ap, subst}
use Rattle.squawk_keywords.specs.TextKeys.{both, key_of, four_bytes_at}
use Rattle.squawk_keywords.proofs.TextKeyLemmas.{key-4, key-none, key-short}
use Rattle.squawk_keywords.proofs.text_key.exact_key.Goals as goal

pub returns-then-len-eq0 : goal.returns-then-len-eq0
returns-then-len-eq0 c = subst (λ text. (0, 0) ≡ key_of text) c.as_bytes-bytes.ensures.value (key-none c.as_bytes-bytes.result.now c.if-len-eq0.true)

pub returns : goal.returns
returns c =
    subst (λ text. (c.from.result, 0) ≡ key_of text) c.as_bytes-bytes.ensures.value
    (key-short c.as_bytes-bytes.result.now c.from.result c.if-len-ge4.false c.if-len-eq0.false (c.from.ensures ∙ c.from_le_bytes-all.ensures))

pub returns-then-len-ge4 : goal.returns-then-len-ge4
returns-then-len-ge4 c =
    let bytes = c.as_bytes-bytes.result.now in
    subst (λ text. (both c.four_bytes-one.result c.four_bytes-two.result, both c.four_bytes-three.result c.four_bytes-four.result) ≡ key_of text) c.as_bytes-bytes.ensures.value
    (key-4 bytes _ _ _ _ c.if-len-ge4.true c.four_bytes-one.ensures.value (c.four_bytes-two.ensures.value ∙ ap (four_bytes_at bytes) c.min.ensures)
    (c.four_bytes-three.ensures.value ∙ ap (four_bytes_at bytes) c.min-then-len-ge4.ensures) c.four_bytes-four.ensures.value)
