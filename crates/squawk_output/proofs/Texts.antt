-- A text and its characters.
use Rattle.std.proofs.Common.{◌≡◌, ◌∙◌, ℕ, List, nat_eq, ap, sym}
use Rattle.std.specs.Prelude.{IsUtf8, encode_utf8_all}
use Rattle.std.specs.Str.{chars}
use Rattle.std.specs.Cmp.Lexicographic.{pointwise, bytes_decides}
use Rattle.std.proofs.lemmas.Bool.Decides.{same_from_decides}
use Rattle.std.proofs.lemmas.Str.{encodes-chars}

-- two texts are the same where their characters are
pub pointwise-chars : (bs ds : List ℕ) → IsUtf8 bs → IsUtf8 ds → pointwise nat_eq bs ds ≡ pointwise nat_eq (chars bs) (chars ds)
pointwise-chars bs ds u v =
    same_from_decides {P = chars bs ≡ chars ds} _ _
    (λ e. ap chars ((bytes_decides bs ds).0 e), λ e. (bytes_decides bs ds).1 (sym (encodes-chars bs u) ∙ (ap encode_utf8_all e ∙ encodes-chars ds v)))
    (bytes_decides (chars bs) (chars ds))
