-- Numeric constants (PostgreSQL's documentation, 4.1.2.6) and positional parameters (4.2.2). Junk is an identifier that
-- stands right behind one.
use Rattle.std.specs.Prelude.{ℕ, ◌+◌, ◌==◌, ◌&&◌, ◌||◌, not, Bool, false, Option, Some, None, List, [], ◌∷◌, drop, nat_lt, slice_index, if◌then◌else◌}
use Rattle.std.specs.Char.{is_ascii_digit, is_ascii_hexdigit, to_ascii_lowercase}
use Rattle.std.specs.List.{prefix_len}
use Rattle.squawk_tokens.specs.declared.token.Token.{Token}
use Rattle.squawk_tokens.specs.declared.token.TokenKind.TheVariants.{Literal, PositionalParam}
use Rattle.squawk_tokens.specs.declared.token.LiteralKind.{LiteralKind}
use Rattle.squawk_tokens.specs.declared.token.LiteralKind.TheVariants.{Int, Numeric}
use Rattle.squawk_tokens.specs.declared.token.Base.{Base}
use Rattle.squawk_tokens.specs.declared.token.Base.TheVariants.{Binary, Octal, Decimal, Hexadecimal}
use Rattle.sql_lexer.specs.Identifiers.{junk_len}
use Rattle.sql_lexer.specs.Rules.{token, when, first}

-- A digit of a base. In base 2 and 8 those that are too large belong to the number, too: each is an error of its own.
abbrev pub is_digit : Base → ℕ → Bool
is_digit Hexadecimal = is_ascii_hexdigit
is_digit base = is_ascii_digit

-- how many bytes the digits in front have, where one underscore (95) may stand before each
abbrev pub digits_len : Base → List ℕ → ℕ
digits_len base [] = 0
digits_len base (b ∷ []) = if is_digit base b then 1 else 0
digits_len base (b ∷ c ∷ rest) =
    if is_digit base b then 1 + digits_len base (c ∷ rest)
    else if (b == 95) && is_digit base c then 2 + digits_len base rest
    else 0

-- a literal whose number takes n bytes, and the junk behind it
abbrev pub with_junk : LiteralKind → ℕ → List ℕ → Token
with_junk kind n text = token (Literal kind) (n + junk_len (drop n text))

-- ---- whole numbers of another base

-- a zero (48) and the base's letter, small or capital, stand in front
abbrev pub has_base : ℕ → List ℕ → Bool
has_base letter text = (first text == 48) && (to_ascii_lowercase (slice_index text 1) == letter)

-- these two bytes, and digits, which may be missing
abbrev pub based : Base → List ℕ → Token
based base text = let digits = digits_len base (drop 2 text) in with_junk (Int (digits == 0) base (2 + digits)) (2 + digits) text

-- 0b101 (b is 98)
abbrev pub binary : List ℕ → Option Token
binary text = when (has_base 98 text) (based Binary text)

-- 0o17 (o is 111)
abbrev pub octal : List ℕ → Option Token
octal text = when (has_base 111 text) (based Octal text)

-- 0x1F (x is 120)
abbrev pub hexadecimal : List ℕ → Option Token
hexadecimal text = when (has_base 120 text) (based Hexadecimal text)

-- ---- decimal numbers

-- digits of which no underscore is the first
abbrev pub whole_len : List ℕ → ℕ
whole_len text = if is_ascii_digit (first text) then digits_len Decimal text else 0

-- a fraction: a point (46), behind which no other stands, and digits, if there are any
abbrev pub fraction_len : List ℕ → ℕ
fraction_len text = if (first text == 46) && not (slice_index text 1 == 46) then 1 + whole_len (drop 1 text) else 0

-- a plus (43) or a minus (45)
abbrev pub sign_len : List ℕ → ℕ
sign_len text = if (first text == 43) || (first text == 45) then 1 else 0

-- an exponent begins with an E, small (101) or capital
abbrev pub is_exponent : List ℕ → Bool
is_exponent text = to_ascii_lowercase (first text) == 101

-- the E and the sign behind it, if there is one
abbrev pub exponent_start_len : List ℕ → ℕ
exponent_start_len text = 1 + sign_len (drop 1 text)

-- an exponent: these and digits, which may be missing
abbrev pub exponent_len : List ℕ → ℕ
exponent_len text = let n = exponent_start_len text in if is_exponent text then n + whole_len (drop n text) else 0

-- an exponent whose digits are missing
abbrev pub is_empty_exponent : List ℕ → Bool
is_empty_exponent text = is_exponent text && (whole_len (drop (exponent_start_len text) text) == 0)

-- a number whose digits and point take n bytes, with its exponent, if it has one
abbrev pub with_exponent : ℕ → List ℕ → Token
with_exponent n text =
    let exponent = drop n text in
    let end = n + exponent_len exponent in
    with_junk (Numeric (if is_empty_exponent exponent then Some n else None) end) end text

-- a whole number ends where neither a fraction nor an exponent follows
abbrev pub is_whole_before : List ℕ → Bool
is_whole_before text = (fraction_len text == 0) && not (is_exponent text)

-- a decimal number: digits, and a fraction and an exponent, if there are
abbrev pub decimal : List ℕ → Option Token
decimal text =
    let whole = whole_len text in
    let rest = drop whole text in
    when (is_ascii_digit (first text))
    (if is_whole_before rest then with_junk (Int false Decimal whole) whole text else with_exponent (whole + fraction_len rest) text)

-- the numbers that begin with a digit: those of another base first, whose zero is a decimal number, too
abbrev pub numbers : List (List ℕ → Option Token)
numbers = binary ∷ octal ∷ hexadecimal ∷ decimal ∷ []

-- a decimal number that begins with a point: a fraction with digits, and an exponent, if there is one
abbrev pub point_number : List ℕ → Option Token
point_number text = let n = fraction_len text in when (nat_lt 1 n) (with_exponent n text)

-- ---- positional parameters

-- a dollar sign (36), digits, and junk
abbrev pub parameter : List ℕ → Option Token
parameter text =
    let n = 1 + prefix_len is_ascii_digit (drop 1 text) in
    when ((first text == 36) && nat_lt 1 n) (token (PositionalParam n) (n + junk_len (drop n text)))
