-- Identifiers without quotes, and keywords (PostgreSQL's documentation, 4.1.1 "Identifiers and Key Words").
use Rattle.std.specs.Prelude.{ℕ, Option, List, if◌then◌else◌}
use Rattle.std.specs.List.{prefix_len}
use Rattle.squawk_tokens.specs.declared.token.Token.{Token}
use Rattle.squawk_tokens.specs.declared.token.TokenKind.TheVariants.{Ident}
use Rattle.sql_lexer.specs.Bytes.{is_name_start, is_name_part}
use Rattle.sql_lexer.specs.Rules.{token, when, first}

-- an identifier: a byte with which one begins, and as many as there are with which it goes on
abbrev pub identifier : List ℕ → Option Token
identifier text = when (is_name_start (first text)) (token Ident (prefix_len is_name_part text))

-- the junk behind a number: how many bytes the identifier in front has, 0 where none is there
abbrev pub junk_len : List ℕ → ℕ
junk_len text = if is_name_start (first text) then prefix_len is_name_part text else 0
