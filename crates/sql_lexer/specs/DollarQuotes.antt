-- Dollar-quoted string constants (PostgreSQL's documentation, 4.1.2.4). A dollar sign is 36.
use Rattle.std.specs.Prelude.{ℕ, ◌+◌, ◌==◌, ◌&&◌, Bool, Option, Some, None, List, [], ◌∷◌, length, take, drop, slice_index, option_map, if◌then◌else◌}
use Rattle.std.specs.List.{prefix_len}
use Rattle.squawk_tokens.specs.declared.token.Token.{Token}
use Rattle.squawk_tokens.specs.declared.token.TokenKind.{TokenKind}
use Rattle.squawk_tokens.specs.declared.token.TokenKind.TheVariants.{Literal}
use Rattle.squawk_tokens.specs.declared.token.LiteralKind.TheVariants.{DollarQuotedString}
use Rattle.sql_lexer.specs.Bytes.{is_name_start, is_tag_part}
use Rattle.sql_lexer.specs.Rules.{first, begins, past, closed_at}

-- the name of a tag: an identifier without dollar signs, or nothing
abbrev pub name_len : List ℕ → ℕ
name_len text = if is_name_start (first text) then prefix_len is_tag_part text else 0

-- how many bytes the tag in front has, if there is one: a dollar sign, a name and a dollar sign
abbrev pub tag_len : List ℕ → Option ℕ
tag_len text = let n = name_len (drop 1 text) in if (first text == 36) && (slice_index text (1 + n) == 36) then Some (n + 2) else None

-- where the first occurrence of a tag ends
abbrev pub first_end : List ℕ → List ℕ → Option ℕ
first_end tag [] = None
first_end tag (b ∷ rest) = if begins (b ∷ rest) tag then Some (length tag) else past 1 (first_end tag rest)

abbrev pub dollar_kind : Bool → TokenKind
dollar_kind terminated = Literal (DollarQuotedString terminated)

-- a dollar-quoted string: a tag, and all up to the end of its next occurrence
abbrev pub dollar_quote : List ℕ → Option Token
dollar_quote text = option_map (λ n. closed_at dollar_kind n text (first_end (take n text) (drop n text))) (tag_len text)
