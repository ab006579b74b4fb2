-- Raw tokens as lines.
use Rattle.std.specs.Prelude.{ℕ, ◌+◌, List, [], ◌∷◌, ◌++◌, codes}
use Rattle.std.specs.Fmt.{decimal}
use Rattle.squawk_tokens.specs.declared.token.Token.{Token}
use Rattle.squawk_tokens.specs.declared.token.TokenKind.{TokenKind}
use Rattle.squawk_tokens.specs.declared.token.TokenKind.TheVariants as raw
use Rattle.squawk_tokens.specs.declared.token.LiteralKind.{LiteralKind}
use Rattle.squawk_tokens.specs.declared.token.LiteralKind.TheVariants as literal

-- what a literal is called
abbrev pub literal_name : LiteralKind → List ℕ
literal_name (literal.Int empty base junk) = codes "Int"
literal_name (literal.Numeric exponent junk) = codes "Numeric"
literal_name (literal.Str terminated) = codes "Str"
literal_name (literal.NationalStr terminated) = codes "NationalStr"
literal_name (literal.ByteStr terminated) = codes "ByteStr"
literal_name (literal.BitStr terminated) = codes "BitStr"
literal_name (literal.DollarQuotedString terminated) = codes "DollarQuotedString"
literal_name (literal.UnicodeEscStr terminated) = codes "UnicodeEscStr"
literal_name (literal.EscStr terminated) = codes "EscStr"

-- what a raw token is called: by its kind, a literal by its own
abbrev pub token_name : TokenKind → List ℕ
token_name raw.Unknown = codes "Unknown"
token_name raw.LineComment = codes "LineComment"
token_name (raw.BlockComment terminated) = codes "BlockComment"
token_name raw.Whitespace = codes "Whitespace"
token_name raw.Ident = codes "Ident"
token_name (raw.QuotedIdent terminated uescape) = codes "QuotedIdent"
token_name (raw.PsqlCommand ends) = codes "PsqlCommand"
token_name (raw.PositionalParam junk) = codes "PositionalParam"
token_name (raw.Literal kind) = literal_name kind
token_name raw.Semi = codes "Semi"
token_name raw.Comma = codes "Comma"
token_name raw.Dot = codes "Dot"
token_name raw.DotDot = codes "DotDot"
token_name raw.OpenParen = codes "OpenParen"
token_name raw.CloseParen = codes "CloseParen"
token_name raw.OpenBracket = codes "OpenBracket"
token_name raw.CloseBracket = codes "CloseBracket"
token_name raw.OpenCurly = codes "OpenCurly"
token_name raw.CloseCurly = codes "CloseCurly"
token_name raw.At = codes "At"
token_name raw.Pound = codes "Pound"
token_name raw.Tilde = codes "Tilde"
token_name raw.Question = codes "Question"
token_name raw.Colon = codes "Colon"
token_name raw.Eq = codes "Eq"
token_name raw.Bang = codes "Bang"
token_name raw.Lt = codes "Lt"
token_name raw.Gt = codes "Gt"
token_name raw.Minus = codes "Minus"
token_name raw.And = codes "And"
token_name raw.Or = codes "Or"
token_name raw.Plus = codes "Plus"
token_name raw.Star = codes "Star"
token_name raw.Slash = codes "Slash"
token_name raw.Caret = codes "Caret"
token_name raw.Percent = codes "Percent"
token_name raw.Backtick = codes "Backtick"
token_name raw.Eof = codes "Eof"

-- the line of a raw token that starts at a byte
abbrev pub token_line : ℕ → Token → List ℕ
token_line start token = token_name token.kind ++ codes " " ++ decimal start ++ codes ".." ++ decimal (start + token.len) ++ codes "\n"

-- the lines of raw tokens, the first of which starts at a byte
abbrev pub token_lines : ℕ → List Token → List ℕ
token_lines start [] = []
token_lines start (token ∷ tokens) = token_line start token ++ token_lines (start + token.len) tokens
