use Rattle.std.proofs.Common.{◌∙◌, ◌++◌, string_bytes, ap, sym}
use Rattle.std.proofs.lemmas.Result.{on_ok_weaker}
use Rattle.squawk_json.proofs.PlainTexts.{json_of-chars, json_string-plain}
use Rattle.squawk_json.proofs.json_strings.push_json.Goals as goal

pub returns-then-needs_no_escape-clause-bytes : goal.returns-then-needs_no_escape-clause-bytes
returns-then-needs_no_escape-clause-bytes c =
    let plain = json_string-plain c.args.text.now (c.needs_no_escape.ensures.0 c.if-needs_no_escape.true) in
    on_ok_weaker c.write.result (λ same. same ∙ ap (λ text. string_bytes c.args.lines.now ++ text) (sym plain)) c.write.ensures.bytes

pub returns-then-needs_no_escape-clause-chars : goal.returns-then-needs_no_escape-clause-chars
returns-then-needs_no_escape-clause-chars c =
    let same_text = sym (json_of-chars c.args.text.now c.utf8.text) in
    on_ok_weaker c.write.result (λ same. same ∙ ap (λ text. string_bytes c.args.lines.now ++ text) same_text)
    (returns-then-needs_no_escape-clause-bytes c)
