use Rattle.std.proofs.Common.{◌≡◌, ◌∙◌, ◌++◌, ℕ, List, ap, append_assoc, chars, string_bytes}
use Rattle.std.specs.Prelude.{codes}
use Rattle.std.specs.Fmt.{decimal}
use Rattle.std.proofs.lemmas.Result.{on_ok_weaker}
use Rattle.squawk_json.specs.JsonStrings.{json_of}
use Rattle.sql_report.specs.JsonLines.{with_comma}
use Rattle.sql_report.proofs.json_writer.push_error.Goals as goal

grouped : (old first second third fourth fifth : List ℕ) → ((old ++ first) ++ second) ++ ((third ++ fourth) ++ fifth) ≡ old ++ ((((first ++ second) ++ third) ++ fourth) ++ fifth)
grouped old first second third fourth fifth = simp append_assoc

pub returns : goal.returns
returns c =
    let old = with_comma (string_bytes c.args.errors.now) in
    let text = json_of (chars c.args.msg.now) in
    let before = c.in_ok-push_str.ensures.bytes ∙ ap (λ l. l ++ codes "{\"message\":") c.in_ok-push_error_comma.ensures in
    let whole = c.in_ok-push_json.ensures.chars ∙ ap (λ l. l ++ text) before in
    on_ok_weaker c.write.result
    (λ same. same ∙ (ap (λ l. l ++ ((codes ",\"at\":" ++ decimal c.args.pos) ++ codes "}")) whole
    ∙ grouped old (codes "{\"message\":") text (codes ",\"at\":") (decimal c.args.pos) (codes "}")))
    c.write.ensures.bytes
