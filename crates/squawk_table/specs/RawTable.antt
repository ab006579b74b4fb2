-- The table of a text's raw tokens.
use Rattle.std.specs.Prelude.{◌≡◌, ◌≢◌, All, ℕ, zero, suc, ◌+◌, ◌-◌, ◌<◌, List, [], ◌∷◌, length, slice_index, slice_range, IsCharBoundary, IsUtf8}
use Rattle.std.specs.List.{flat_map}
use Rattle.squawk_tokens.specs.declared.token.Token.{Token}
use Rattle.squawk_tokens.specs.ErrorRanges.{StandApart}
use Rattle.squawk_tokens.specs.LexicalErrors.{LexicalError, lexical_errors}
use Rattle.squawk_kinds.specs.Keywords.{Keywords}
use Rattle.squawk_kinds.specs.Kinds.{EOF}
use Rattle.squawk_table.specs.TokenKinds.{kind_of}

-- A source, the syntax kinds of its raw tokens, where they start, and their lexical errors. The last start is the end
-- of the source.
pub record Table : Type 0 where
  pub text : List ℕ
  pub kinds : List ℕ
  pub starts : List ℕ
  pub errors : List LexicalError

-- the kinds of tokens that stand one after another from `at` on
abbrev pub kinds_from : Keywords → List ℕ → ℕ → List Token → List ℕ
kinds_from keyword text at [] = []
kinds_from keyword text at (t ∷ ts) = kind_of keyword t.kind (slice_range text at (at + t.len)) ∷ kinds_from keyword text (at + t.len) ts

-- where each of them starts, and where the last one ends
abbrev pub starts_from : ℕ → List Token → List ℕ
starts_from at [] = at ∷ []
starts_from at (t ∷ ts) = at ∷ starts_from (at + t.len) ts

-- the table of a list of tokens over a text
abbrev pub table_of : Keywords → List ℕ → List Token → Table
table_of keyword text tokens = record {
  text = text;
  kinds = kinds_from keyword text 0 tokens;
  starts = starts_from 0 tokens;
  errors = lexical_errors text tokens;
}

-- the part of the source under raw token i
abbrev pub piece : Table → ℕ → List ℕ
piece t i = slice_range t.text (slice_index t.starts i) (slice_index t.starts (i + 1))

-- What every table keeps: the source is text, no raw token is the end, the starts ascend over character boundaries,
-- from 0 to the source's end, and the errors ascend without overlapping, each in one raw token.
pub record IsTable (t : Table) : Type 0 where
  pub utf8 : IsUtf8 t.text
  pub no_end : All (λ kind. kind ≢ EOF) t.kinds
  pub entries : length t.starts ≡ length t.kinds + 1
  pub begins : slice_index t.starts 0 ≡ 0
  pub ends : slice_index t.starts (length t.kinds) ≡ length t.text
  pub boundaries : (i : ℕ) → i < length t.starts → IsCharBoundary t.text (slice_index t.starts i)
  pub ascends : (i j : ℕ) → i < j → j < length t.starts → slice_index t.starts i < slice_index t.starts j
  pub errors : StandApart (slice_index t.starts) (length t.kinds) t.errors

-- a raw token: its syntax kind and its part of the source
pub record RawToken : Type 0 where
  pub kind : ℕ
  pub text : List ℕ

-- raw token i of a table
abbrev pub raw_at : Table → ℕ → RawToken
raw_at t i = record { kind = slice_index t.kinds i; text = piece t i }

-- n raw tokens of a table, from raw token i on
abbrev pub raw_from : Table → ℕ → ℕ → List RawToken
raw_from t i zero = []
raw_from t i (suc n) = raw_at t i ∷ raw_from t (i + 1) n

-- all from raw token i on
abbrev pub raw_after : Table → ℕ → List RawToken
raw_after t i = raw_from t i (length t.kinds - i)

-- the raw tokens of a table
abbrev pub raw_tokens : Table → List RawToken
raw_tokens t = raw_from t 0 (length t.kinds)

-- the texts of raw tokens, joined
abbrev pub text_of : List RawToken → List ℕ
text_of raw = flat_map (λ r. r.text) raw
