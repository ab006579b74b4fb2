use Rattle.std.proofs.Common.{◌∙◌, ap, refl, sym}
use Rattle.std.proofs.lemmas.Result.{IfOk-weaker}
use Rattle.std.proofs.lemmas.Str.{encodes-chars}
use Rattle.serde_json.specs.Data.{string}
use Rattle.squawk_json.proofs.json_strings.json_text.Goals as goal

pub returns-clause-bytes : goal.returns-clause-bytes
returns-clause-bytes c =
    let text = c.from-value.ensures ∙ ap string c.in_ok-from_str.ensures.ok in
    IfOk-weaker c.to_string.result _ _ (λ s h. let k = rw text at h in k refl) c.to_string.ensures.text

pub returns-clause-chars : goal.returns-clause-chars
returns-clause-chars c =
    let text = c.from-value.ensures ∙ ap string (c.in_ok-from_str.ensures.ok ∙ sym (encodes-chars c.args.text.now c.utf8.text)) in
    IfOk-weaker c.to_string.result _ _ (λ s h. let k = rw text at h in k refl) c.to_string.ensures.text
