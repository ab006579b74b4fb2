-- Comments (PostgreSQL's documentation, 4.1.5 "Comments").
use Rattle.std.specs.Prelude.{ℕ, ◌+◌, ◌-◌, ◌==◌, ◌&&◌, Bool, Option, Some, None, List, [], ◌∷◌, drop, codes, if◌then◌else◌}
use Rattle.std.specs.List.{position_or_len}
use Rattle.squawk_tokens.specs.declared.token.Token.{Token}
use Rattle.squawk_tokens.specs.declared.token.TokenKind.{TokenKind}
use Rattle.squawk_tokens.specs.declared.token.TokenKind.TheVariants.{LineComment, BlockComment}
use Rattle.sql_lexer.specs.Bytes.{is_line_end}
use Rattle.sql_lexer.specs.Rules.{token, when, begins, past, closed_at}

-- a line comment: two dashes, and all up to the end of the line
abbrev pub line_comment : List ℕ → Option Token
line_comment text = when (begins text (codes "--")) (token LineComment (position_or_len is_line_end text))

-- the two bytes `/*`
abbrev pub opens : ℕ → ℕ → Bool
opens b c = (b == 47) && (c == 42)

-- the two bytes `*/`
abbrev pub closes : ℕ → ℕ → Bool
closes b c = (b == 42) && (c == 47)

-- Where a comment ends, from a place inside of it that lies in so many outer comments, too: `/*` opens an inner
-- comment, and `*/` closes the innermost.
abbrev pub comment_end : ℕ → List ℕ → Option ℕ
comment_end outer [] = None
comment_end outer (b ∷ []) = None
comment_end outer (b ∷ c ∷ rest) =
    if opens b c then past 2 (comment_end (outer + 1) rest)
    else if closes b c then (if outer == 0 then Some 2 else past 2 (comment_end (outer - 1) rest))
    else past 1 (comment_end outer (c ∷ rest))

abbrev pub comment_kind : Bool → TokenKind
comment_kind terminated = BlockComment terminated

-- a block comment: `/*`, and all up to the `*/` that closes it
abbrev pub block_comment : List ℕ → Option Token
block_comment text = when (begins text (codes "/*")) (closed_at comment_kind 2 text (comment_end 0 (drop 2 text)))
