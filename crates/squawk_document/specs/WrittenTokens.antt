-- How raw tokens are written as JSON: each kind with its spelling and its fields, each once.
use Rattle.std.specs.Prelude.{ℕ, ◌≢◌, ◌≤◌, All, List, [], ◌∷◌, codes, map, Option, Some, None, IfSome}
use Rattle.serde_json.specs.Data.{Data, null, boolean, number, unsigned, string, array}
use Rattle.serde_json.specs.View.{items_of}
use Rattle.squawk_tokens.specs.Bases.{radix}
use Rattle.squawk_tokens.specs.declared.token.LiteralKind.{LiteralKind}
use Rattle.squawk_tokens.specs.declared.token.LiteralKind.TheVariants.{Int, Numeric, Str, NationalStr, ByteStr, BitStr, DollarQuotedString, UnicodeEscStr, EscStr}
use Rattle.squawk_tokens.specs.declared.token.Token.{Token}
use Rattle.squawk_tokens.specs.declared.token.TokenKind.{TokenKind}
use Rattle.squawk_tokens.specs.declared.token.TokenKind.TheVariants.{Unknown, LineComment, BlockComment, Whitespace, Ident, QuotedIdent, PsqlCommand, PositionalParam, Literal, Semi, Comma, Dot, DotDot, OpenParen, CloseParen, OpenBracket, CloseBracket, OpenCurly, CloseCurly, At, Pound, Tilde, Question, Colon, Eq, Bang, Lt, Gt, Minus, And, Or, Plus, Star, Slash, Caret, Percent, Backtick, Eof}

-- ---- spellings

-- the spelling of a literal
abbrev pub spelling_of_literal : LiteralKind → List ℕ
spelling_of_literal (Int empty_int base trailing_junk_start) = codes "int"
spelling_of_literal (Numeric empty_exponent_start trailing_junk_start) = codes "numeric"
spelling_of_literal (Str terminated) = codes "str"
spelling_of_literal (ByteStr terminated) = codes "byte_str"
spelling_of_literal (BitStr terminated) = codes "bit_str"
spelling_of_literal (EscStr terminated) = codes "esc_str"
spelling_of_literal (NationalStr terminated) = codes "national_str"
spelling_of_literal (UnicodeEscStr terminated) = codes "unicode_esc_str"
spelling_of_literal (DollarQuotedString terminated) = codes "dollar_quoted_string"

-- the spelling of a kind
abbrev pub spelling_of : TokenKind → List ℕ
spelling_of Whitespace = codes "whitespace"
spelling_of LineComment = codes "line_comment"
spelling_of (BlockComment terminated) = codes "block_comment"
spelling_of Ident = codes "ident"
spelling_of (QuotedIdent terminated uescape) = codes "quoted_ident"
spelling_of (Literal kind) = spelling_of_literal kind
spelling_of (PositionalParam trailing_junk_start) = codes "positional_param"
spelling_of (PsqlCommand ends_query) = codes "psql_command"
spelling_of Semi = codes "semi"
spelling_of Comma = codes "comma"
spelling_of Dot = codes "dot"
spelling_of DotDot = codes "dot_dot"
spelling_of Colon = codes "colon"
spelling_of OpenParen = codes "open_paren"
spelling_of CloseParen = codes "close_paren"
spelling_of OpenBracket = codes "open_bracket"
spelling_of CloseBracket = codes "close_bracket"
spelling_of OpenCurly = codes "open_curly"
spelling_of CloseCurly = codes "close_curly"
spelling_of Plus = codes "plus"
spelling_of Minus = codes "minus"
spelling_of Star = codes "star"
spelling_of Slash = codes "slash"
spelling_of Lt = codes "lt"
spelling_of Gt = codes "gt"
spelling_of Eq = codes "eq"
spelling_of Tilde = codes "tilde"
spelling_of Bang = codes "bang"
spelling_of At = codes "at"
spelling_of Pound = codes "pound"
spelling_of Percent = codes "percent"
spelling_of Caret = codes "caret"
spelling_of And = codes "and"
spelling_of Or = codes "or"
spelling_of Backtick = codes "backtick"
spelling_of Question = codes "question"
spelling_of Unknown = codes "unknown"
spelling_of Eof = codes "eof"

-- ---- fields

-- a number without a sign, a fraction and an exponent
abbrev pub whole : ℕ → Data
whole n = number (unsigned n)

-- a byte offset, or null for none
abbrev pub offset : Option ℕ → Data
offset None = null
offset (Some n) = whole n

-- the fields of a literal, in the order in which the literal has them
abbrev pub fields_of_literal : LiteralKind → List Data
fields_of_literal (Int empty_int base trailing_junk_start) = boolean empty_int ∷ whole (radix base) ∷ whole trailing_junk_start ∷ []
fields_of_literal (Numeric empty_exponent_start trailing_junk_start) = offset empty_exponent_start ∷ whole trailing_junk_start ∷ []
fields_of_literal (Str terminated) = boolean terminated ∷ []
fields_of_literal (ByteStr terminated) = boolean terminated ∷ []
fields_of_literal (BitStr terminated) = boolean terminated ∷ []
fields_of_literal (EscStr terminated) = boolean terminated ∷ []
fields_of_literal (NationalStr terminated) = boolean terminated ∷ []
fields_of_literal (UnicodeEscStr terminated) = boolean terminated ∷ []
fields_of_literal (DollarQuotedString terminated) = boolean terminated ∷ []

-- the fields of a kind, in the order in which the kind has them; most have none
abbrev pub fields_of_kind : TokenKind → List Data
fields_of_kind (BlockComment terminated) = boolean terminated ∷ []
fields_of_kind (QuotedIdent terminated uescape) = boolean terminated ∷ boolean uescape ∷ []
fields_of_kind (PsqlCommand ends_query) = boolean ends_query ∷ []
fields_of_kind (PositionalParam trailing_junk_start) = whole trailing_junk_start ∷ []
fields_of_kind (Literal kind) = fields_of_literal kind
fields_of_kind kind = []

-- ---- tokens

-- a spelling, a length and fields
abbrev pub written_token : Token → Data
written_token token = array (items_of (string (spelling_of token.kind) ∷ whole token.len ∷ fields_of_kind token.kind))

-- a list of tokens
abbrev pub written_tokens : List Token → Data
written_tokens tokens = array (items_of (map written_token tokens))

-- ---- what isn't written so

-- a number is of 32 bits
abbrev pub IsOf32Bits : ℕ → Type 0
IsOf32Bits n = n ≤ 4294967295

-- the numbers of a literal are
abbrev pub HasLiteralOf32Bits : LiteralKind → Type 0
HasLiteralOf32Bits (Int empty_int base trailing_junk_start) = IsOf32Bits trailing_junk_start
HasLiteralOf32Bits (Numeric empty_exponent_start trailing_junk_start) = IfSome empty_exponent_start IsOf32Bits × IsOf32Bits trailing_junk_start
HasLiteralOf32Bits kind = Unit

-- the numbers of a kind are
abbrev pub HasKindOf32Bits : TokenKind → Type 0
HasKindOf32Bits (PositionalParam trailing_junk_start) = IsOf32Bits trailing_junk_start
HasKindOf32Bits (Literal kind) = HasLiteralOf32Bits kind
HasKindOf32Bits kind = Unit

-- a token's length and the numbers of its kind are of 32 bits
abbrev pub HasNumbersOf32Bits : Token → Type 0
HasNumbersOf32Bits token = IsOf32Bits token.len × HasKindOf32Bits token.kind

-- JSON that no token is written as
abbrev pub IsNoToken : Data → Type 0
IsNoToken d = (token : Token) → HasNumbersOf32Bits token → d ≢ written_token token

-- JSON that no list of tokens is written as
abbrev pub IsNoTokens : Data → Type 0
IsNoTokens d = (tokens : List Token) → All HasNumbersOf32Bits tokens → d ≢ written_tokens tokens
