-- The tokens of what psql reads: SQL, and the data of COPY between it (PostgreSQL's documentation, the reference pages
-- of COPY and psql).
use Rattle.std.specs.Prelude.{ℕ, zero, suc, ◌+◌, ◌-◌, ◌==◌, Bool, List, [], ◌∷◌, take, drop, codes, slice_index, if◌then◌else◌}
use Rattle.std.specs.List.{position_or_len}
use Rattle.std.specs.Str.{bytes_eq}
use Rattle.squawk_tokens.specs.declared.token.Token.{Token}
use Rattle.squawk_tokens.specs.declared.token.TokenKind.TheVariants.{PsqlCommand, Whitespace}
use Rattle.sql_lexer.specs.declared.statements.Statement.{Statement}
use Rattle.sql_lexer.specs.declared.statements.Statement.TheVariants.{Start}
use Rattle.sql_lexer.specs.declared.script.places.Place.{Place}
use Rattle.sql_lexer.specs.declared.script.places.Place.TheVariants.{Front, Sql, Data}
use Rattle.sql_lexer.specs.declared.statements.Word.{Word}
use Rattle.sql_lexer.specs.Rules.{token, begins}
use Rattle.sql_lexer.specs.Statements.{after, data_follow}
use Rattle.sql_lexer.specs.ScriptWords.{word_of}
use Rattle.sql_lexer.specs.Tokens.{first_token, tokens_by}

-- ---- lines

-- where the first newline (10) stands, or the text ends
abbrev pub newline_at : List ℕ → ℕ
newline_at text = position_or_len (λ b. b == 10) text

-- how many bytes the line in front has: those before the newline, but not a carriage return (13) at their end
abbrev pub line_len : List ℕ → ℕ
line_len text = let n = newline_at text in if slice_index text (n - 1) == 13 then n - 1 else n

-- how many bytes the line end in front has: two where a newline stands behind a carriage return
abbrev pub line_end_len : List ℕ → ℕ
line_end_len text = if begins text (13 ∷ 10 ∷ []) then 2 else 1

-- the line in front is `\.`, which ends data
abbrev pub ends_data : List ℕ → Bool
ends_data text = bytes_eq (take (line_len text) text) (codes "\\.")

-- ---- tokens

-- a text begins with a byte order mark
abbrev pub has_mark : List ℕ → Bool
has_mark text = begins text (239 ∷ 187 ∷ 191 ∷ [])

-- of data: a line, or the line end in front
abbrev pub data_token : List ℕ → Token
data_token text =
    if line_len text == 0 then token Whitespace (line_end_len text) else token (PsqlCommand (ends_data text)) (line_len text)

-- behind COPY: what is left of its line, so many bytes, is cut as if the text ended there
abbrev pub token_before : ℕ → List ℕ → Token
token_before left text = if left == 0 then data_token text else first_token (take left text)

-- the token in front; a byte order mark is white space
abbrev pub token_at : Place → List ℕ → Token
token_at Front text = if has_mark text then token Whitespace 3 else first_token text
token_at (Sql statement) text = first_token text
token_at (Data left statement waiting) text = token_before left text

-- ---- places

-- data, for which so many other COPY statements wait
abbrev pub data_of : Statement → ℕ → Place
data_of statement waiting = Data 0 statement waiting

-- behind a word of a statement: data begin at the line behind the statement's
abbrev pub place_with : Statement → Word → List ℕ → Place
place_with statement word rest =
    if data_follow statement word then Data (line_len rest) (after statement word) 0 else Sql (after statement word)

-- behind a token of a statement
abbrev pub place_in : Statement → List ℕ → Place
place_in statement text =
    let found = first_token text in
    place_with statement (word_of found.kind (take found.len text)) (drop found.len text)

-- how many COPY statements wait for their data behind a word of the first one's line
abbrev pub waiting_behind : ℕ → Statement → Word → ℕ
waiting_behind waiting statement word = if data_follow statement word then waiting + 1 else waiting

-- behind a token of what is left of the line
abbrev pub place_on_line : ℕ → Statement → ℕ → List ℕ → Token → Place
place_on_line left statement waiting text found =
    let word = word_of found.kind (take found.len text) in
    Data (left - found.len) (after statement word) (waiting_behind waiting statement word)

-- behind the data of a COPY: those of the next one that waits, or SQL
abbrev pub place_behind_data : ℕ → Place
place_behind_data zero = Sql Start
place_behind_data (suc waiting) = data_of Start waiting

-- behind a token of data
abbrev pub place_in_data : Statement → ℕ → List ℕ → Place
place_in_data statement waiting text =
    if line_len text == 0 then data_of statement waiting
    else if ends_data text then place_behind_data waiting
    else data_of statement waiting

-- behind a token of data, or of what is left of the line of COPY
abbrev pub place_before : ℕ → Statement → ℕ → List ℕ → Place
place_before left statement waiting text =
    if left == 0 then place_in_data statement waiting text else place_on_line left statement waiting text (first_token (take left text))

-- behind the token in front
abbrev pub place_behind : Place → List ℕ → Place
place_behind Front text = if has_mark text then Sql Start else place_in Start text
place_behind (Sql statement) text = place_in statement text
place_behind (Data left statement waiting) text = place_before left statement waiting text

-- the tokens of a script
abbrev pub script_tokens : List ℕ → List Token
script_tokens text = tokens_by token_at place_behind Front 0 text
