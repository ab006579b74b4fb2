-- The tokens of a text (PostgreSQL's documentation, 4.1 "Lexical Structure").
use Rattle.std.specs.Prelude.{ℕ, zero, suc, ◌-◌, ◌<◌, ◌≤◌, Option, List, [], ◌∷◌, length}
use Rattle.std.specs.Option.{unwrap_or}
use Rattle.squawk_tokens.specs.declared.token.Token.{Token}
use Rattle.sql_lexer.specs.declared.tokenizer.TokenizeError.{TokenizeError}
use Rattle.sql_lexer.specs.declared.tokenizer.TokenizeError.TheVariants.{TextTooLong, OutOfMemory}
use Rattle.sql_lexer.specs.Rules.{first, first_of}
use Rattle.sql_lexer.specs.Signs.{whitespace, dot_dot, sign}
use Rattle.sql_lexer.specs.Identifiers.{identifier}
use Rattle.sql_lexer.specs.Comments.{line_comment, block_comment}
use Rattle.sql_lexer.specs.Psql.{psql_command}
use Rattle.sql_lexer.specs.Strings.{string, quoted_identifier, prefixed}
use Rattle.sql_lexer.specs.DollarQuotes.{dollar_quote}
use Rattle.sql_lexer.specs.Numbers.{numbers, point_number, parameter}

-- Where two rules fit, the longer token comes first: a string with a letter before an identifier, a number before two
-- points.
abbrev pub rules : List (List ℕ → Option Token)
rules =
    whitespace ∷ line_comment ∷ block_comment ∷ psql_command
    ∷ string ∷ quoted_identifier ∷ first_of prefixed ∷ identifier
    ∷ parameter ∷ dollar_quote ∷ first_of numbers ∷ point_number ∷ dot_dot ∷ []

-- the token that begins a text: that of the first rule that fits, or else a sign
abbrev pub first_token : List ℕ → Token
first_token text = unwrap_or (first_of rules text) (sign (first text))

-- the tokens of a text whose first n bytes are of the token before them
abbrev pub tokens_behind : ℕ → List ℕ → List Token
tokens_behind n [] = []
tokens_behind (suc n) (b ∷ rest) = tokens_behind n rest
tokens_behind zero (b ∷ rest) = let found = first_token (b ∷ rest) in found ∷ tokens_behind (found.len - 1) rest

-- the tokens of a text: one behind the other
abbrev pub tokens_of : List ℕ → List Token
tokens_of text = tokens_behind 0 text

-- Tokens of which each depends on the place that it stands at, too: `token` is the one in front at a place, and `next`
-- the place behind it.
abbrev pub tokens_by : {P : Type 0} → (P → List ℕ → Token) → (P → List ℕ → P) → P → ℕ → List ℕ → List Token
tokens_by token next place n [] = []
tokens_by token next place (suc n) (b ∷ rest) = tokens_by token next place n rest
tokens_by token next place zero (b ∷ rest) =
    let found = token place (b ∷ rest) in
    found ∷ tokens_by token next (next place (b ∷ rest)) (found.len - 1) rest

-- why a text has no tokens
abbrev pub RefusesText : List ℕ → TokenizeError → Type 0
RefusesText text TextTooLong = 4294967295 < length text
RefusesText text OutOfMemory = length text ≤ 4294967295
