-- Strings that can't go on with the one before them. By PostgreSQL's documentation, section 4.1.2.1 "String Constants", a
-- string goes on after white space with a newline; its scanner lets comments to the end of a line stand there, and no others.
use Rattle.std.specs.Prelude.{ℕ, ◌+◌, ◌&&◌, ◌||◌, not, Bool, true, false, List, [], ◌∷◌, slice_range, if◌then◌else◌}
use Rattle.std.specs.List.{list_any}
use Rattle.squawk_tokens.specs.declared.token.Token.{Token}
use Rattle.squawk_tokens.specs.declared.token.TokenKind.{TokenKind}
use Rattle.squawk_tokens.specs.declared.token.TokenKind.TheVariants.{LineComment, BlockComment, Whitespace, Literal}
use Rattle.squawk_tokens.specs.declared.token.LiteralKind.TheVariants.{Str, NationalStr, ByteStr, BitStr, EscStr, UnicodeEscStr}
use Rattle.sql_lexer.specs.Bytes.{is_line_end}

abbrev pub is_trivia : TokenKind → Bool
is_trivia Whitespace = true
is_trivia LineComment = true
is_trivia (BlockComment terminated) = true
is_trivia kind = false

abbrev pub is_space : TokenKind → Bool
is_space Whitespace = true
is_space kind = false

abbrev pub is_block_comment : TokenKind → Bool
is_block_comment (BlockComment terminated) = true
is_block_comment kind = false

-- whether a token is a string in quotes, and whether it is one without a prefix, which may go on with another
abbrev pub is_quoted : TokenKind → Bool
is_quoted (Literal (Str terminated)) = true
is_quoted (Literal (NationalStr terminated)) = true
is_quoted (Literal (ByteStr terminated)) = true
is_quoted (Literal (BitStr terminated)) = true
is_quoted (Literal (EscStr terminated)) = true
is_quoted (Literal (UnicodeEscStr terminated)) = true
is_quoted kind = false

abbrev pub is_plain : TokenKind → Bool
is_plain (Literal (Str terminated)) = true
is_plain kind = false

-- a raw token with its text
pub record Piece : Type 0 where
  pub kind : TokenKind
  pub text : List ℕ

-- whether it is white space in which a line ends, and whether it is a comment in `/*` and `*/`
abbrev pub ends_line : Piece → Bool
ends_line p = is_space p.kind && list_any is_line_end p.text

abbrev pub is_comment : Piece → Bool
is_comment p = is_block_comment p.kind

-- Going back over white space and comments, the nearest first: what is passed over, and whether a string in quotes stands
-- before it.
abbrev pub passed_over : List Piece → List Piece
passed_over [] = []
passed_over (p ∷ before) = if is_trivia p.kind then p ∷ passed_over before else []

abbrev pub follows_string : List Piece → Bool
follows_string [] = false
follows_string (p ∷ before) = if is_trivia p.kind then follows_string before else is_quoted p.kind

-- whether a plain string after these tokens can't go on with a string before it: no line ends between the two, or a comment
-- in `/*` and `*/` stands there
abbrev pub is_stray : List Piece → Bool
is_stray before = follows_string before && (not (list_any ends_line (passed_over before)) || list_any is_comment (passed_over before))

-- which of the raw tokens that aren't trivia are such strings, where these begin at a byte of a text after others
abbrev pub strays_after : List Piece → List ℕ → ℕ → List Token → List Bool
strays_after before text at [] = []
strays_after before text at (t ∷ tokens) =
    let strays = strays_after (record { kind = t.kind; text = slice_range text at (at + t.len) } ∷ before) text (at + t.len) tokens in
    if is_trivia t.kind then strays else (is_plain t.kind && is_stray before) ∷ strays

-- the same of all of a text
abbrev pub stray_strings : List ℕ → List Token → List Bool
stray_strings text tokens = strays_after [] text 0 tokens
