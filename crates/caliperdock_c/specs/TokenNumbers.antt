-- How raw tokens are written as numbers.
use Rattle.std.specs.Prelude.{ℕ, Bool, Some, None, bit_or, if◌then◌else◌}
use Rattle.squawk_tokens.specs.Bases.{radix}
use Rattle.squawk_tokens.specs.declared.token.Token.{Token}
use Rattle.squawk_tokens.specs.declared.token.TokenKind.{TokenKind}
use Rattle.squawk_tokens.specs.declared.token.TokenKind.TheVariants as kind
use Rattle.squawk_tokens.specs.declared.token.LiteralKind.{LiteralKind}
use Rattle.squawk_tokens.specs.declared.token.LiteralKind.TheVariants as literal
use Rattle.caliperdock_c.specs.declared.token.CToken.{CToken}

abbrev pub numbered : ℕ → ℕ → ℕ → ℕ → ℕ → CToken
numbered kind len a b flags = record { kind = kind; len = len; a = a; b = b; flags = flags }

-- a flag that is set where this holds
abbrev pub flag_if : Bool → ℕ → ℕ
flag_if holds flag = if holds then flag else 0

-- a literal of so many bytes
abbrev pub literal_number : LiteralKind → ℕ → CToken
literal_number (literal.Int empty base junk) len = numbered 36 len junk (radix base) (flag_if empty 8)
literal_number (literal.Numeric (Some exponent) junk) len = numbered 37 len junk exponent 16
literal_number (literal.Numeric None junk) len = numbered 37 len junk 0 0
literal_number (literal.Str ended) len = numbered 38 len 0 0 (flag_if ended 1)
literal_number (literal.NationalStr ended) len = numbered 39 len 0 0 (flag_if ended 1)
literal_number (literal.ByteStr ended) len = numbered 40 len 0 0 (flag_if ended 1)
literal_number (literal.BitStr ended) len = numbered 41 len 0 0 (flag_if ended 1)
literal_number (literal.DollarQuotedString ended) len = numbered 42 len 0 0 (flag_if ended 1)
literal_number (literal.UnicodeEscStr ended) len = numbered 43 len 0 0 (flag_if ended 1)
literal_number (literal.EscStr ended) len = numbered 44 len 0 0 (flag_if ended 1)

-- the numbers of a kind and so many bytes
abbrev pub numbers_of : TokenKind → ℕ → CToken
numbers_of kind.Unknown len = numbered 0 len 0 0 0
numbers_of kind.LineComment len = numbered 1 len 0 0 0
numbers_of (kind.BlockComment ended) len = numbered 2 len 0 0 (flag_if ended 1)
numbers_of kind.Whitespace len = numbered 3 len 0 0 0
numbers_of kind.Ident len = numbered 4 len 0 0 0
numbers_of (kind.QuotedIdent ended uescape) len = numbered 5 len 0 0 (bit_or (flag_if ended 1) (flag_if uescape 2))
numbers_of (kind.PsqlCommand ends) len = numbered 6 len 0 0 (flag_if ends 4)
numbers_of (kind.PositionalParam junk) len = numbered 7 len junk 0 0
numbers_of kind.Semi len = numbered 8 len 0 0 0
numbers_of kind.Comma len = numbered 9 len 0 0 0
numbers_of kind.Dot len = numbered 10 len 0 0 0
numbers_of kind.DotDot len = numbered 11 len 0 0 0
numbers_of kind.OpenParen len = numbered 12 len 0 0 0
numbers_of kind.CloseParen len = numbered 13 len 0 0 0
numbers_of kind.OpenBracket len = numbered 14 len 0 0 0
numbers_of kind.CloseBracket len = numbered 15 len 0 0 0
numbers_of kind.OpenCurly len = numbered 16 len 0 0 0
numbers_of kind.CloseCurly len = numbered 17 len 0 0 0
numbers_of kind.At len = numbered 18 len 0 0 0
numbers_of kind.Pound len = numbered 19 len 0 0 0
numbers_of kind.Tilde len = numbered 20 len 0 0 0
numbers_of kind.Question len = numbered 21 len 0 0 0
numbers_of kind.Colon len = numbered 22 len 0 0 0
numbers_of kind.Eq len = numbered 23 len 0 0 0
numbers_of kind.Bang len = numbered 24 len 0 0 0
numbers_of kind.Lt len = numbered 25 len 0 0 0
numbers_of kind.Gt len = numbered 26 len 0 0 0
numbers_of kind.Minus len = numbered 27 len 0 0 0
numbers_of kind.And len = numbered 28 len 0 0 0
numbers_of kind.Or len = numbered 29 len 0 0 0
numbers_of kind.Plus len = numbered 30 len 0 0 0
numbers_of kind.Star len = numbered 31 len 0 0 0
numbers_of kind.Slash len = numbered 32 len 0 0 0
numbers_of kind.Caret len = numbered 33 len 0 0 0
numbers_of kind.Percent len = numbered 34 len 0 0 0
numbers_of kind.Backtick len = numbered 35 len 0 0 0
numbers_of (kind.Literal literal) len = literal_number literal len
numbers_of kind.Eof len = numbered 45 len 0 0 0

-- a raw token as numbers
abbrev pub number_of : Token → CToken
number_of t = numbers_of t.kind t.len
