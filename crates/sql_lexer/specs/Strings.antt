-- String constants in quotes, and quoted identifiers (PostgreSQL's documentation, 4.1.2 "Constants" and 4.1.1
-- "Identifiers and Key Words").
use Rattle.std.specs.Prelude.{ℕ, ◌==◌, ◌&&◌, Bool, false, true, Option, Some, None, List, [], ◌∷◌, drop, slice_index, if◌then◌else◌}
use Rattle.std.specs.Char.{to_ascii_lowercase}
use Rattle.squawk_tokens.specs.declared.token.Token.{Token}
use Rattle.squawk_tokens.specs.declared.token.TokenKind.{TokenKind}
use Rattle.squawk_tokens.specs.declared.token.TokenKind.TheVariants.{Literal, QuotedIdent}
use Rattle.squawk_tokens.specs.declared.token.LiteralKind.TheVariants.{Str, NationalStr, ByteStr, BitStr, UnicodeEscStr, EscStr}
use Rattle.sql_lexer.specs.Rules.{when, first, past, closed_at}

-- where a quoted text ends, from a place inside of it: behind the first quote that isn't doubled
abbrev pub quote_end : ℕ → List ℕ → Option ℕ
quote_end quote [] = None
quote_end quote (b ∷ []) = if b == quote then Some 1 else None
quote_end quote (b ∷ c ∷ rest) =
    if b == quote then (if c == quote then past 2 (quote_end quote rest) else Some 1)
    else past 1 (quote_end quote (c ∷ rest))

-- the same where a backslash (92) takes the byte behind it along, in single quotes (39)
abbrev pub escape_end : List ℕ → Option ℕ
escape_end [] = None
escape_end (b ∷ []) = if b == 39 then Some 1 else None
escape_end (b ∷ c ∷ rest) =
    if b == 92 then past 2 (escape_end rest)
    else if b == 39 then (if c == 39 then past 2 (escape_end rest) else Some 1)
    else past 1 (escape_end (c ∷ rest))

-- ---- quotes alone

abbrev pub string_kind : Bool → TokenKind
string_kind terminated = Literal (Str terminated)

-- a string constant: a single quote, and all up to its end
abbrev pub string : List ℕ → Option Token
string text = when (first text == 39) (closed_at string_kind 1 text (quote_end 39 (drop 1 text)))

abbrev pub identifier_kind : Bool → TokenKind
identifier_kind terminated = QuotedIdent terminated false

-- a quoted identifier: a double quote (34), and all up to its end
abbrev pub quoted_identifier : List ℕ → Option Token
quoted_identifier text = when (first text == 34) (closed_at identifier_kind 1 text (quote_end 34 (drop 1 text)))

-- ---- quotes behind a letter, small or capital

-- a text begins with this letter and a single quote
abbrev pub has_letter : ℕ → List ℕ → Bool
has_letter letter text = (to_ascii_lowercase (first text) == letter) && (slice_index text 1 == 39)

abbrev pub escape_kind : Bool → TokenKind
escape_kind terminated = Literal (EscStr terminated)

-- E'..' (e is 101), in which a backslash escapes a quote
abbrev pub escape_string : List ℕ → Option Token
escape_string text = when (has_letter 101 text) (closed_at escape_kind 2 text (escape_end (drop 2 text)))

abbrev pub bit_kind : Bool → TokenKind
bit_kind terminated = Literal (BitStr terminated)

-- B'..' (b is 98)
abbrev pub bit_string : List ℕ → Option Token
bit_string text = when (has_letter 98 text) (closed_at bit_kind 2 text (quote_end 39 (drop 2 text)))

abbrev pub byte_kind : Bool → TokenKind
byte_kind terminated = Literal (ByteStr terminated)

-- X'..' (x is 120)
abbrev pub byte_string : List ℕ → Option Token
byte_string text = when (has_letter 120 text) (closed_at byte_kind 2 text (quote_end 39 (drop 2 text)))

abbrev pub national_kind : Bool → TokenKind
national_kind terminated = Literal (NationalStr terminated)

-- N'..' (n is 110)
abbrev pub national_string : List ℕ → Option Token
national_string text = when (has_letter 110 text) (closed_at national_kind 2 text (quote_end 39 (drop 2 text)))

-- ---- quotes behind U&

-- a text begins with a U (u is 117), an ampersand (38) and this quote
abbrev pub has_unicode : ℕ → List ℕ → Bool
has_unicode quote text = (to_ascii_lowercase (first text) == 117) && (slice_index text 1 == 38) && (slice_index text 2 == quote)

abbrev pub unicode_kind : Bool → TokenKind
unicode_kind terminated = Literal (UnicodeEscStr terminated)

-- U&'..'
abbrev pub unicode_string : List ℕ → Option Token
unicode_string text = when (has_unicode 39 text) (closed_at unicode_kind 3 text (quote_end 39 (drop 3 text)))

abbrev pub unicode_identifier_kind : Bool → TokenKind
unicode_identifier_kind terminated = QuotedIdent terminated true

-- U&".."
abbrev pub unicode_identifier : List ℕ → Option Token
unicode_identifier text = when (has_unicode 34 text) (closed_at unicode_identifier_kind 3 text (quote_end 34 (drop 3 text)))

-- all of these
abbrev pub prefixed : List (List ℕ → Option Token)
prefixed = escape_string ∷ bit_string ∷ byte_string ∷ national_string ∷ unicode_string ∷ unicode_identifier ∷ []
