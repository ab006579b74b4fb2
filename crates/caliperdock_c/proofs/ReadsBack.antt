-- A raw token that is written reads back as itself.
use Rattle.std.proofs.Common.{◌≡◌, ◌≢◌, ℕ, true, false, None, Some, refl}
use Rattle.squawk_tokens.specs.declared.token.Base.{Base}
use Rattle.squawk_tokens.specs.declared.token.Base.TheVariants.{Binary, Octal, Decimal, Hexadecimal}
use Rattle.squawk_tokens.specs.declared.token.LiteralKind.{LiteralKind}
use Rattle.squawk_tokens.specs.declared.token.LiteralKind.TheVariants as literal
use Rattle.squawk_tokens.specs.declared.token.Token.{Token}
use Rattle.squawk_tokens.specs.declared.token.TokenKind.{TokenKind}
use Rattle.squawk_tokens.specs.declared.token.TokenKind.TheVariants as kind
use Rattle.caliperdock_c.specs.TokenNumbers.{literal_number, number_of, numbers_of}
use Rattle.caliperdock_c.specs.Tokens.{token_of}

abbrev token : TokenKind → ℕ → Token
token kind len = record { kind = kind; len = len }

integer : (base : Base) (junk len : ℕ) → token_of (literal_number (literal.Int true base junk) len) ≡ Some (token (kind.Literal (literal.Int true base junk)) len)
integer Binary junk len = refl
integer Octal junk len = refl
integer Decimal junk len = refl
integer Hexadecimal junk len = refl

digits : (base : Base) (junk len : ℕ) → token_of (literal_number (literal.Int false base junk) len) ≡ Some (token (kind.Literal (literal.Int false base junk)) len)
digits Binary junk len = refl
digits Octal junk len = refl
digits Decimal junk len = refl
digits Hexadecimal junk len = refl

of_literal : (l : LiteralKind) (len : ℕ) → token_of (literal_number l len) ≡ Some (token (kind.Literal l) len)
of_literal (literal.Int true base junk) len = integer base junk len
of_literal (literal.Int false base junk) len = digits base junk len
of_literal (literal.Numeric (Some exponent) junk) len = refl
of_literal (literal.Numeric None junk) len = refl
of_literal (literal.Str true) len = refl
of_literal (literal.Str false) len = refl
of_literal (literal.NationalStr true) len = refl
of_literal (literal.NationalStr false) len = refl
of_literal (literal.ByteStr true) len = refl
of_literal (literal.ByteStr false) len = refl
of_literal (literal.BitStr true) len = refl
of_literal (literal.BitStr false) len = refl
of_literal (literal.DollarQuotedString true) len = refl
of_literal (literal.DollarQuotedString false) len = refl
of_literal (literal.UnicodeEscStr true) len = refl
of_literal (literal.UnicodeEscStr false) len = refl
of_literal (literal.EscStr true) len = refl
of_literal (literal.EscStr false) len = refl

of_kind : (k : TokenKind) (len : ℕ) → k ≢ kind.Eof → token_of (numbers_of k len) ≡ Some (token k len)
of_kind kind.Unknown len some = refl
of_kind kind.LineComment len some = refl
of_kind (kind.BlockComment true) len some = refl
of_kind (kind.BlockComment false) len some = refl
of_kind kind.Whitespace len some = refl
of_kind kind.Ident len some = refl
of_kind (kind.QuotedIdent true true) len some = refl
of_kind (kind.QuotedIdent true false) len some = refl
of_kind (kind.QuotedIdent false true) len some = refl
of_kind (kind.QuotedIdent false false) len some = refl
of_kind (kind.PsqlCommand true) len some = refl
of_kind (kind.PsqlCommand false) len some = refl
of_kind (kind.PositionalParam junk) len some = refl
of_kind kind.Semi len some = refl
of_kind kind.Comma len some = refl
of_kind kind.Dot len some = refl
of_kind kind.DotDot len some = refl
of_kind kind.OpenParen len some = refl
of_kind kind.CloseParen len some = refl
of_kind kind.OpenBracket len some = refl
of_kind kind.CloseBracket len some = refl
of_kind kind.OpenCurly len some = refl
of_kind kind.CloseCurly len some = refl
of_kind kind.At len some = refl
of_kind kind.Pound len some = refl
of_kind kind.Tilde len some = refl
of_kind kind.Question len some = refl
of_kind kind.Colon len some = refl
of_kind kind.Eq len some = refl
of_kind kind.Bang len some = refl
of_kind kind.Lt len some = refl
of_kind kind.Gt len some = refl
of_kind kind.Minus len some = refl
of_kind kind.And len some = refl
of_kind kind.Or len some = refl
of_kind kind.Plus len some = refl
of_kind kind.Star len some = refl
of_kind kind.Slash len some = refl
of_kind kind.Caret len some = refl
of_kind kind.Percent len some = refl
of_kind kind.Backtick len some = refl
of_kind (kind.Literal l) len some = of_literal l len
of_kind kind.Eof len some = absurd (some refl)

pub reads_back : (t : Token) → t.kind ≢ kind.Eof → token_of (number_of t) ≡ Some t
reads_back t some = of_kind t.kind t.len some
