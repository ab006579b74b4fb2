use Rattle.std.proofs.Common.{rules, ◌≡◌, ◌∙◌, ◌∷◌, [], ◌++◌, ◌==◌, OnOk, false, ap, sym, encode_utf8_all}
use Rattle.std.proofs.lemmas.Result.{on_ok_weaker}
use Rattle.std.proofs.lemmas.Str.{encodes-chars}
use Rattle.squawk_kinds.specs.Kinds.{WHITESPACE}
use Rattle.sql_trim.specs.Formatted.{formatted, piece_at, white}
use Rattle.sql_trim.specs.Trimmed.{trimmed}
use Rattle.sql_trim.proofs.Pieces.{holds, puts}
use Rattle.sql_trim.proofs.format.push_token.Goals as goal

pub returns-then-eq : goal.returns-then-eq
returns-then-eq c =
    let bytes = c.as_bytes-text.result.now in
    let put : OnOk c.extend_from_slice.result (c.extend_from_slice.new.self.items ≡ c.args.white_space.now.items ++ bytes) = search rules in
    on_ok_weaker c.extend_from_slice.result
    (λ is forest lies behind. ap (λ l. c.args.out.now.items ++ formatted (white l ∷ behind)) is
    ∙ holds c.args.out.now.items c.args.white_space.now.items bytes (piece_at forest c.args.token.at) behind
    (c.as_bytes-text.ensures.value ∙ (sym (encodes-chars c.text.result.now c.text.utf8) ∙ ap encode_utf8_all (c.text.ensures forest lies)))
    (ap (λ kind. kind == WHITESPACE) (sym (c.kind.ensures forest lies)) ∙ (search rules)))
    put

pub returns : goal.returns
returns c =
    let bytes = c.as_bytes-text.result.now in
    let text = c.push_trimmed.new.text.items in
    let put : OnOk c.extend_from_slice-2.result (c.extend_from_slice-2.new.self.items ≡ text ++ bytes) = search rules in
    on_ok_weaker c.extend_from_slice-2.result
    (λ is forest lies behind. ap (λ l. l ++ formatted (white c.clear.new.self.items ∷ behind)) is
    ∙ (ap (λ l. (text ++ bytes) ++ formatted (white l ∷ behind)) c.clear.ensures.items
    ∙ (ap (λ l. (l ++ bytes) ++ formatted (white [] ∷ behind)) (c.in_ok-push_trimmed.ensures ∙ ap (λ l. c.args.out.now.items ++ trimmed false l) c.deref.ensures.value)
    ∙ puts c.args.out.now.items c.args.white_space.now.items bytes (piece_at forest c.args.token.at) behind
    (c.as_bytes-text.ensures.value ∙ (sym (encodes-chars c.text.result.now c.text.utf8) ∙ ap encode_utf8_all (c.text.ensures forest lies)))
    (ap (λ kind. kind == WHITESPACE) (sym (c.kind.ensures forest lies)) ∙ (search rules)))))
    put
