-- The raw tokens of a document: each is a list of a spelling, a length and the fields of the kind that is spelled.
use Rattle.std.specs.Prelude.{ℕ, ◌==◌, Bool, List, [], ◌∷◌, codes, Option, Some, None, is_some, Result, Ok, Err, if◌then◌else◌}
use Rattle.serde_json.specs.Data.{Data}
use Rattle.serde_json.specs.Find.{as_null}
use Rattle.squawk_tokens.specs.declared.token.Base.{Base}
use Rattle.squawk_tokens.specs.declared.token.Base.TheVariants.{Binary, Octal, Decimal, Hexadecimal}
use Rattle.squawk_tokens.specs.declared.token.LiteralKind.{LiteralKind}
use Rattle.squawk_tokens.specs.declared.token.LiteralKind.TheVariants.{Int, Numeric, Str, NationalStr, ByteStr, BitStr, DollarQuotedString, UnicodeEscStr, EscStr}
use Rattle.squawk_tokens.specs.declared.token.Token.{Token}
use Rattle.squawk_tokens.specs.declared.token.TokenKind.{TokenKind}
use Rattle.squawk_tokens.specs.declared.token.TokenKind.TheVariants.{Unknown, LineComment, BlockComment, Whitespace, Ident, QuotedIdent, PsqlCommand, PositionalParam, Literal, Semi, Comma, Dot, DotDot, OpenParen, CloseParen, OpenBracket, CloseBracket, OpenCurly, CloseCurly, At, Pound, Tilde, Question, Colon, Eq, Bang, Lt, Gt, Minus, And, Or, Plus, Star, Slash, Caret, Percent, Backtick, Eof}
use Rattle.squawk_document.specs.declared.document_error.DocumentError.{DocumentError}
use Rattle.squawk_document.specs.declared.document_error.DocumentError.TheVariants.{Shape}
use Rattle.squawk_document.specs.Values.{◌>>=◌, bool_in, each, is_text, items_in, string_in, u32_in}

-- ---- fields

-- a byte offset, or null for none
abbrev pub offset_in : Data → Result (Option ℕ) DocumentError
offset_in d = if is_some (as_null d) then Ok None else u32_in d >>= λ n. Ok (Some n)

-- the base of an integer, as a number
abbrev pub base_in : Data → Result Base DocumentError
base_in d = u32_in d >>= λ n.
    if n == 2 then Ok Binary else
    if n == 8 then Ok Octal else
    if n == 10 then Ok Decimal else
    if n == 16 then Ok Hexadecimal else
    Err Shape

-- ---- spellings

-- the signs that operators consist of
abbrev pub operator_sign : List ℕ → Result TokenKind DocumentError
operator_sign w =
    if is_text w (codes "at") then Ok At else
    if is_text w (codes "pound") then Ok Pound else
    if is_text w (codes "tilde") then Ok Tilde else
    if is_text w (codes "question") then Ok Question else
    if is_text w (codes "eq") then Ok Eq else
    if is_text w (codes "bang") then Ok Bang else
    if is_text w (codes "lt") then Ok Lt else
    if is_text w (codes "gt") then Ok Gt else
    if is_text w (codes "minus") then Ok Minus else
    if is_text w (codes "and") then Ok And else
    if is_text w (codes "or") then Ok Or else
    if is_text w (codes "plus") then Ok Plus else
    if is_text w (codes "star") then Ok Star else
    if is_text w (codes "slash") then Ok Slash else
    if is_text w (codes "caret") then Ok Caret else
    if is_text w (codes "percent") then Ok Percent else
    if is_text w (codes "backtick") then Ok Backtick else
    Err Shape

-- the signs that separate or enclose, and those of operators
abbrev pub punctuation : List ℕ → Result TokenKind DocumentError
punctuation w =
    if is_text w (codes "semi") then Ok Semi else
    if is_text w (codes "comma") then Ok Comma else
    if is_text w (codes "dot") then Ok Dot else
    if is_text w (codes "dot_dot") then Ok DotDot else
    if is_text w (codes "open_paren") then Ok OpenParen else
    if is_text w (codes "close_paren") then Ok CloseParen else
    if is_text w (codes "open_bracket") then Ok OpenBracket else
    if is_text w (codes "close_bracket") then Ok CloseBracket else
    if is_text w (codes "open_curly") then Ok OpenCurly else
    if is_text w (codes "close_curly") then Ok CloseCurly else
    if is_text w (codes "colon") then Ok Colon else
    operator_sign w

-- the kinds without fields
abbrev pub plain_kind : List ℕ → Result TokenKind DocumentError
plain_kind w =
    if is_text w (codes "unknown") then Ok Unknown else
    if is_text w (codes "line_comment") then Ok LineComment else
    if is_text w (codes "whitespace") then Ok Whitespace else
    if is_text w (codes "ident") then Ok Ident else
    if is_text w (codes "eof") then Ok Eof else
    punctuation w

-- the literals whose only field is whether they are terminated
abbrev pub quoted_literal : List ℕ → Bool → Result LiteralKind DocumentError
quoted_literal w terminated =
    if is_text w (codes "str") then Ok (Str terminated) else
    if is_text w (codes "national_str") then Ok (NationalStr terminated) else
    if is_text w (codes "byte_str") then Ok (ByteStr terminated) else
    if is_text w (codes "bit_str") then Ok (BitStr terminated) else
    if is_text w (codes "dollar_quoted_string") then Ok (DollarQuotedString terminated) else
    if is_text w (codes "unicode_esc_str") then Ok (UnicodeEscStr terminated) else
    if is_text w (codes "esc_str") then Ok (EscStr terminated) else
    Err Shape

-- the kinds with one field
abbrev pub kind_of_one : List ℕ → Data → Result TokenKind DocumentError
kind_of_one w a =
    if is_text w (codes "block_comment") then (bool_in a >>= λ terminated. Ok (BlockComment terminated)) else
    if is_text w (codes "psql_command") then (bool_in a >>= λ ends_query. Ok (PsqlCommand ends_query)) else
    if is_text w (codes "positional_param") then (u32_in a >>= λ junk. Ok (PositionalParam junk)) else
    (bool_in a >>= λ terminated. quoted_literal w terminated >>= λ literal. Ok (Literal literal))

-- the kinds with two fields
abbrev pub kind_of_two : List ℕ → Data → Data → Result TokenKind DocumentError
kind_of_two w a b =
    if is_text w (codes "quoted_ident") then (bool_in a >>= λ terminated. bool_in b >>= λ uescape. Ok (QuotedIdent terminated uescape)) else
    if is_text w (codes "numeric") then (offset_in a >>= λ exponent. u32_in b >>= λ junk. Ok (Literal (Numeric exponent junk))) else
    Err Shape

-- the only kind with three fields
abbrev pub kind_of_three : List ℕ → Data → Data → Data → Result TokenKind DocumentError
kind_of_three w a b c =
    if is_text w (codes "int") then (bool_in a >>= λ empty. base_in b >>= λ base. u32_in c >>= λ junk. Ok (Literal (Int empty base junk))) else
    Err Shape

-- ---- tokens

-- the kind of a spelling and all its fields
abbrev pub spelled_kind : List ℕ → List Data → Result TokenKind DocumentError
spelled_kind w [] = plain_kind w
spelled_kind w (a ∷ []) = kind_of_one w a
spelled_kind w (a ∷ b ∷ []) = kind_of_two w a b
spelled_kind w (a ∷ b ∷ c ∷ []) = kind_of_three w a b c
spelled_kind w fields = Err Shape

-- a spelling, a length and fields
abbrev pub spelled_token : List Data → Result Token DocumentError
spelled_token (s ∷ l ∷ fields) = string_in s >>= λ w. u32_in l >>= λ len. spelled_kind w fields >>= λ kind. Ok (record { kind = kind; len = len })
spelled_token ds = Err Shape

-- one raw token
abbrev pub token_in : Data → Result Token DocumentError
token_in d = items_in d >>= λ ds. spelled_token ds

-- the raw tokens of a document
abbrev pub tokens_in : Data → Result (List Token) DocumentError
tokens_in d = items_in d >>= λ ds. each token_in ds
