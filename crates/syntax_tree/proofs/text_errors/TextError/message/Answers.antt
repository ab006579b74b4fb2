use Rattle.std.proofs.Common.{◌∙◌, ap, encode_utf8_all, sym}
use Rattle.std.proofs.lemmas.Str.{encodes-chars}
use Rattle.syntax_tree.specs.TextErrors.{message_of}
use Rattle.syntax_tree.proofs.text_errors.TextError.message.Goals as goal

pub returns-in-Grammar : goal.returns-in-Grammar
returns-in-Grammar c =
    let said = c.message-in-Grammar in
    sym (encodes-chars said.result.now said.utf8) ∙ (ap encode_utf8_all said.ensures ∙ ap message_of (sym c.in-Grammar.is))
