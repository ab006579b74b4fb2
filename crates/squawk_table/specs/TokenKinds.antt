-- The syntax kinds of raw tokens.
use Rattle.std.specs.Prelude.{ℕ, true, false, List, unwrap_or}
use Rattle.squawk_tokens.specs.declared.token.TokenKind.{TokenKind}
use Rattle.squawk_tokens.specs.declared.token.TokenKind.TheVariants.{Unknown, LineComment, BlockComment, Whitespace, Ident, QuotedIdent, PsqlCommand, PositionalParam, Literal, Semi, Comma, Dot, DotDot, OpenParen, CloseParen, OpenBracket, CloseBracket, OpenCurly, CloseCurly, At, Pound, Tilde, Question, Colon, Eq, Bang, Lt, Gt, Minus, And, Or, Plus, Star, Slash, Caret, Percent, Backtick, Eof}
use Rattle.squawk_tokens.specs.declared.token.LiteralKind.{LiteralKind}
use Rattle.squawk_tokens.specs.declared.token.LiteralKind.TheVariants.{Int, Numeric, Str, NationalStr, ByteStr, BitStr, DollarQuotedString, UnicodeEscStr, EscStr}
use Rattle.squawk_kinds.specs.Keywords.{Keywords}
use Rattle.squawk_kinds.specs.Kinds.{EOF, ERROR, IDENT, COMMENT, WHITESPACE, INT_NUMBER, NUMERIC_NUMBER, STRING, NATIONAL_STRING, BYTE_STRING, BIT_STRING, DOLLAR_QUOTED_STRING, UNICODE_ESC_STRING, ESC_STRING, PSQL_TERMINATOR_TEXT, PSQL_COMMAND_TEXT, POSITIONAL_PARAM, SEMICOLON, COMMA, DOT, DOT_DOT, L_PAREN, R_PAREN, L_BRACK, R_BRACK, L_CURLY, R_CURLY, AT, POUND, TILDE, QUESTION, COLON, EQ, BANG, L_ANGLE, R_ANGLE, MINUS, AMP, PIPE, PLUS, STAR, SLASH, CARET, PERCENT, BACKTICK}

-- the syntax kind of a literal
abbrev pub literal_kind_of : LiteralKind → ℕ
literal_kind_of (Int empty base junk) = INT_NUMBER
literal_kind_of (Numeric exponent junk) = NUMERIC_NUMBER
literal_kind_of (Str terminated) = STRING
literal_kind_of (NationalStr terminated) = NATIONAL_STRING
literal_kind_of (ByteStr terminated) = BYTE_STRING
literal_kind_of (BitStr terminated) = BIT_STRING
literal_kind_of (DollarQuotedString terminated) = DOLLAR_QUOTED_STRING
literal_kind_of (UnicodeEscStr terminated) = UNICODE_ESC_STRING
literal_kind_of (EscStr terminated) = ESC_STRING

-- the syntax kind of a raw token with this text: an identifier is a keyword of the vocabulary, or else IDENT
abbrev pub kind_of : Keywords → TokenKind → List ℕ → ℕ
kind_of keyword Unknown text = ERROR
kind_of keyword LineComment text = COMMENT
kind_of keyword (BlockComment terminated) text = COMMENT
kind_of keyword Whitespace text = WHITESPACE
kind_of keyword Ident text = unwrap_or (keyword text) IDENT
kind_of keyword (QuotedIdent terminated uescape) text = IDENT
kind_of keyword (PsqlCommand true) text = PSQL_TERMINATOR_TEXT
kind_of keyword (PsqlCommand false) text = PSQL_COMMAND_TEXT
kind_of keyword (PositionalParam junk) text = POSITIONAL_PARAM
kind_of keyword (Literal kind) text = literal_kind_of kind
kind_of keyword Semi text = SEMICOLON
kind_of keyword Comma text = COMMA
kind_of keyword Dot text = DOT
kind_of keyword DotDot text = DOT_DOT
kind_of keyword OpenParen text = L_PAREN
kind_of keyword CloseParen text = R_PAREN
kind_of keyword OpenBracket text = L_BRACK
kind_of keyword CloseBracket text = R_BRACK
kind_of keyword OpenCurly text = L_CURLY
kind_of keyword CloseCurly text = R_CURLY
kind_of keyword At text = AT
kind_of keyword Pound text = POUND
kind_of keyword Tilde text = TILDE
kind_of keyword Question text = QUESTION
kind_of keyword Colon text = COLON
kind_of keyword Eq text = EQ
kind_of keyword Bang text = BANG
kind_of keyword Lt text = L_ANGLE
kind_of keyword Gt text = R_ANGLE
kind_of keyword Minus text = MINUS
kind_of keyword And text = AMP
kind_of keyword Or text = PIPE
kind_of keyword Plus text = PLUS
kind_of keyword Star text = STAR
kind_of keyword Slash text = SLASH
kind_of keyword Caret text = CARET
kind_of keyword Percent text = PERCENT
kind_of keyword Backtick text = BACKTICK
kind_of keyword Eof text = EOF

-- the kind says the syntax kind without the text
abbrev pub IsNoIdent : TokenKind → Type 0
IsNoIdent Ident = ⊥
IsNoIdent kind = Unit {0}

-- and without fields of its own
abbrev pub IsConstant : TokenKind → Type 0
IsConstant Ident = ⊥
IsConstant (PsqlCommand ends_query) = ⊥
IsConstant (Literal kind) = ⊥
IsConstant kind = Unit {0}
