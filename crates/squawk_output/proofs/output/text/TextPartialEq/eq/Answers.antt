use Rattle.std.proofs.Common.{◌∙◌, string_bytes}
use Rattle.std.proofs.lemmas.Str.{IsUtf8-string_bytes}
use Rattle.squawk_output.proofs.Texts.{pointwise-chars}
use Rattle.squawk_output.proofs.output.text.TextPartialEq.eq.Goals as goal

pub returns : goal.returns
returns c =
    let a = c.self.inside.text in
    let b = c.other.inside.text in
    rw (← c.self.view_is, ← c.other.view_is) (c.eq.ensures ∙ pointwise-chars (string_bytes a) (string_bytes b) (IsUtf8-string_bytes a) (IsUtf8-string_bytes b))
