-- White space and signs (PostgreSQL's documentation, 4.1.4 "Special Characters"). An operator of several signs is
-- several tokens.
use Rattle.std.specs.Prelude.{ℕ, ◌==◌, Option, List, [], ◌∷◌, codes, if◌then◌else◌}
use Rattle.std.specs.List.{prefix_len}
use Rattle.squawk_tokens.specs.declared.token.Token.{Token}
use Rattle.squawk_tokens.specs.declared.token.TokenKind.{TokenKind}
use Rattle.squawk_tokens.specs.declared.token.TokenKind.TheVariants.{Whitespace, Unknown, Semi, Comma, Dot, DotDot, OpenParen, CloseParen, OpenBracket, CloseBracket, OpenCurly, CloseCurly, At, Pound, Tilde, Question, Colon, Eq, Bang, Lt, Gt, Minus, And, Or, Plus, Star, Slash, Caret, Percent, Backtick}
use Rattle.sql_lexer.specs.Bytes.{is_space}
use Rattle.sql_lexer.specs.Rules.{token, when, first, begins}

-- white space: as many of its bytes as there are
abbrev pub whitespace : List ℕ → Option Token
whitespace text = when (is_space (first text)) (token Whitespace (prefix_len is_space text))

-- two points
abbrev pub dot_dot : List ℕ → Option Token
dot_dot text = when (begins text (codes "..")) (token DotDot 2)

-- the signs with their kinds: ! # % & ( ) * + , - . / : ; < = > ? @ [ ] ^ ` { | } ~
abbrev pub signs : List (ℕ × TokenKind)
signs =
    (33, Bang) ∷ (35, Pound) ∷ (37, Percent) ∷ (38, And) ∷ (40, OpenParen) ∷ (41, CloseParen) ∷ (42, Star) ∷ (43, Plus)
    ∷ (44, Comma) ∷ (45, Minus) ∷ (46, Dot) ∷ (47, Slash) ∷ (58, Colon) ∷ (59, Semi) ∷ (60, Lt) ∷ (61, Eq) ∷ (62, Gt)
    ∷ (63, Question) ∷ (64, At) ∷ (91, OpenBracket) ∷ (93, CloseBracket) ∷ (94, Caret) ∷ (96, Backtick) ∷ (123, OpenCurly)
    ∷ (124, Or) ∷ (125, CloseCurly) ∷ (126, Tilde) ∷ []

-- the kind of a byte in a table, Unknown where the table doesn't have it
abbrev pub kind_in : List (ℕ × TokenKind) → ℕ → TokenKind
kind_in [] b = Unknown
kind_in (row ∷ rows) b = if b == row.0 then row.1 else kind_in rows b

-- A sign, or what is no other token: one byte. It is one character, since identifiers begin with all bytes past 127.
abbrev pub sign : ℕ → Token
sign b = token (kind_in signs b) 1

-- a byte of white space by itself, or one that is no other token
abbrev pub single : ℕ → Token
single b = token (if is_space b then Whitespace else kind_in signs b) 1
