-- Raw tokens as numbers.
use Rattle.std.specs.Prelude.{ℕ, ◌==◌, Bool, not, Option, Some, None, List, [], ◌∷◌, option_map, bit_and, nat_lt, if◌then◌else◌}
use Rattle.std.specs.List.{slice_index_or}
use Rattle.squawk_tokens.specs.declared.token.Token.{Token}
use Rattle.squawk_tokens.specs.declared.token.TokenKind.{TokenKind}
use Rattle.squawk_tokens.specs.declared.token.TokenKind.TheVariants as kind
use Rattle.squawk_tokens.specs.declared.token.LiteralKind.TheVariants as literal
use Rattle.squawk_tokens.specs.declared.token.Base.{Base}
use Rattle.squawk_tokens.specs.declared.token.Base.TheVariants as base
use Rattle.caliperdock_c.specs.declared.token.CToken.{CToken}

-- whether a flag is set
abbrev pub flag : ℕ → ℕ → Bool
flag flags bit = not (bit_and flags bit == 0)

-- the base of this number, if it is one's
abbrev pub base_of : ℕ → Option Base
base_of n =
    if n == 2 then Some base.Binary else
    if n == 8 then Some base.Octal else
    if n == 10 then Some base.Decimal else
    if n == 16 then Some base.Hexadecimal else None

-- what a token is by its number, from the first on
abbrev pub kinds_numbered : CToken → List (Option TokenKind)
kinds_numbered t =
    let ended = flag t.flags 1 in
    Some kind.Unknown
    ∷ Some kind.LineComment
    ∷ Some (kind.BlockComment ended)
    ∷ Some kind.Whitespace
    ∷ Some kind.Ident
    ∷ Some (kind.QuotedIdent ended (flag t.flags 2))
    ∷ Some (kind.PsqlCommand (flag t.flags 4))
    ∷ Some (kind.PositionalParam t.a)
    ∷ Some kind.Semi
    ∷ Some kind.Comma
    ∷ Some kind.Dot
    ∷ Some kind.DotDot
    ∷ Some kind.OpenParen
    ∷ Some kind.CloseParen
    ∷ Some kind.OpenBracket
    ∷ Some kind.CloseBracket
    ∷ Some kind.OpenCurly
    ∷ Some kind.CloseCurly
    ∷ Some kind.At
    ∷ Some kind.Pound
    ∷ Some kind.Tilde
    ∷ Some kind.Question
    ∷ Some kind.Colon
    ∷ Some kind.Eq
    ∷ Some kind.Bang
    ∷ Some kind.Lt
    ∷ Some kind.Gt
    ∷ Some kind.Minus
    ∷ Some kind.And
    ∷ Some kind.Or
    ∷ Some kind.Plus
    ∷ Some kind.Star
    ∷ Some kind.Slash
    ∷ Some kind.Caret
    ∷ Some kind.Percent
    ∷ Some kind.Backtick
    ∷ option_map (λ b. kind.Literal (literal.Int (flag t.flags 8) b t.a)) (base_of t.b)
    ∷ Some (kind.Literal (literal.Numeric (if flag t.flags 16 then Some t.b else None) t.a))
    ∷ Some (kind.Literal (literal.Str ended))
    ∷ Some (kind.Literal (literal.NationalStr ended))
    ∷ Some (kind.Literal (literal.ByteStr ended))
    ∷ Some (kind.Literal (literal.BitStr ended))
    ∷ Some (kind.Literal (literal.DollarQuotedString ended))
    ∷ Some (kind.Literal (literal.UnicodeEscStr ended))
    ∷ Some (kind.Literal (literal.EscStr ended))
    ∷ []

-- the kind of a token, if its number is a kind's
abbrev pub kind_of : CToken → Option TokenKind
kind_of t = slice_index_or (kinds_numbered t) t.kind None

-- the token, if its number is a kind's, and its flags have no other bits than those five
abbrev pub token_of : CToken → Option Token
token_of t = if nat_lt t.flags 32 then option_map (λ k. record { kind = k; len = t.len }) (kind_of t) else None
