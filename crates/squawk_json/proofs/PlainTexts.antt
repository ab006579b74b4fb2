-- A text without characters that need an escape stands in a JSON string as it is.
use Rattle.std.proofs.Common.{◌≡◌, ◌++◌, ℕ, suc, List, [], ◌∷◌, All, IsUtf8, chars, arith, ap, refl}
use Rattle.std.proofs.lemmas.Bool.{ne_eqb, le-ltb}
use Rattle.std.proofs.lemmas.Str.{encodes-chars}
use Rattle.json.specs.Print.{escape_byte, escape}
use Rattle.squawk_json.specs.JsonStrings.{IsPlain, json_of, json_string}

escape-plain : (byte : ℕ) → IsPlain byte → escape_byte byte ≡ byte ∷ []
unfolding escape_byte
escape-plain byte plain =
    rw (
      ne_eqb byte 34 plain.1,
      ne_eqb byte 92 plain.2,
      ne_eqb byte 8 (λ e. omega arith),
      ne_eqb byte 12 (λ e. omega arith),
      ne_eqb byte 10 (λ e. omega arith),
      ne_eqb byte 13 (λ e. omega arith),
      ne_eqb byte 9 (λ e. omega arith),
      le-ltb byte 32 plain.0,
    )

escape-all : (bytes : List ℕ) → All IsPlain bytes → escape bytes ≡ bytes
escape-all [] plain = refl
escape-all (byte ∷ bytes) plain =
    let first = escape-plain byte (plain 0 0 (omega arith)) in
    let rest = escape-all bytes (λ k d lt. plain (suc k) d (omega arith)) in
    λ i. first i ++ rest i

pub json_string-plain : (bytes : List ℕ) → All IsPlain bytes → json_string bytes ≡ 34 ∷ (bytes ++ 34 ∷ [])
json_string-plain bytes plain = λ i. 34 ∷ (escape-all bytes plain i ++ 34 ∷ [])

-- a text's characters are written as the text is
pub json_of-chars : (bytes : List ℕ) → IsUtf8 bytes → json_of (chars bytes) ≡ json_string bytes
json_of-chars bytes utf8 = ap json_string (encodes-chars bytes utf8)
