-- Texts as JSON strings.
use Rattle.std.specs.Prelude.{◌≤◌, ◌≢◌, ℕ, List, encode_utf8_all}
use Rattle.serde_json.specs.Data.{string}
use Rattle.serde_json.specs.Written.{compact_text}

-- the bytes of a text, as a JSON string
abbrev pub json_string : List ℕ → List ℕ
json_string bytes = compact_text (string bytes)

-- the characters of a text, as a JSON string
abbrev pub json_of : List ℕ → List ℕ
json_of text = json_string (encode_utf8_all text)

-- a byte that a JSON string has as it is: no control character, no quote and no backslash
abbrev pub IsPlain : ℕ → Type 0
IsPlain byte = (32 ≤ byte) × (byte ≢ 34) × (byte ≢ 92)
