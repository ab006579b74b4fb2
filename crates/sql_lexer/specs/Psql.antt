-- Commands of psql (PostgreSQL's documentation, the reference page of psql, "Meta-Commands").
use Rattle.std.specs.Prelude.{ℕ, ◌+◌, ◌==◌, ◌&&◌, ◌||◌, not, Bool, true, false, Option, List, [], ◌∷◌, take, drop, codes, slice_index, if◌then◌else◌}
use Rattle.std.specs.Char.{is_ascii_alphabetic}
use Rattle.std.specs.List.{prefix_len, position_or_len, list_any}
use Rattle.std.specs.Str.{bytes_eq, str_eq_ignore_ascii_case}
use Rattle.squawk_tokens.specs.declared.token.Token.{Token}
use Rattle.squawk_tokens.specs.declared.token.TokenKind.TheVariants.{PsqlCommand}
use Rattle.sql_lexer.specs.declared.psql.Quote.{Quote}
use Rattle.sql_lexer.specs.declared.psql.Quote.TheVariants.{Outside, Single, Escaped, Double, Back}
use Rattle.sql_lexer.specs.Bytes.{is_space, is_line_end}
use Rattle.sql_lexer.specs.Rules.{token, when, first, begins}

-- ---- the word

-- the word of a command begins with a letter, `!` (33), `?` (63) or `.` (46)
abbrev pub is_command_start : ℕ → Bool
is_command_start b = is_ascii_alphabetic b || (b == 33) || (b == 63) || (b == 46)

-- it goes on up to white space or a backslash (92)
abbrev pub is_word_part : ℕ → Bool
is_word_part b = not (is_space b) && not (b == 92)

-- the word in front
abbrev pub word : List ℕ → List ℕ
word text = take (prefix_len is_word_part text) text

-- the words of commands that end a query
abbrev pub query_ends : List (List ℕ)
query_ends = codes "g" ∷ codes "gx" ∷ codes "gexec" ∷ codes "gset" ∷ codes "gdesc" ∷ codes "crosstabview" ∷ codes "watch" ∷ []

-- whether the word in front is one of them
abbrev pub ends_query : List ℕ → Bool
ends_query text = list_any (bytes_eq (word text)) query_ends

-- the words of commands of which "the entire remainder of the line" is the argument
abbrev pub line_takers : List (List ℕ)
line_takers = codes "!" ∷ codes "ef" ∷ codes "ev" ∷ codes "h" ∷ codes "help" ∷ codes "sf" ∷ codes "sf+" ∷ codes "sv" ∷ codes "sv+" ∷ []

abbrev pub takes_any_line : List ℕ → Bool
takes_any_line name = list_any (bytes_eq name) line_takers

-- and `\copy`, small or capital
abbrev pub is_copy : List ℕ → Bool
is_copy name = str_eq_ignore_ascii_case name (codes "copy")

-- the words of commands that write to a file or a pipe
abbrev pub writers : List (List ℕ)
writers = codes "g" ∷ codes "gx" ∷ codes "o" ∷ codes "out" ∷ codes "w" ∷ codes "write" ∷ []

abbrev pub writes : List ℕ → Bool
writes name = list_any (bytes_eq name) writers

abbrev pub is_blank : ℕ → Bool
is_blank b = is_space b && not (is_line_end b)

-- arguments are a pipe: they begin with `|` (124)
abbrev pub is_pipe : List ℕ → Bool
is_pipe arguments = begins (drop (prefix_len is_blank arguments) arguments) (124 ∷ [])

-- whether the command in front takes the line: always, or for a pipe
abbrev pub takes_line : List ℕ → Bool
takes_line text =
    takes_any_line (word text) || (writes (word text) && is_pipe (drop (prefix_len is_word_part text) text)) || is_copy (word text)

-- ---- the arguments

-- In single quotes (39) a backslash escapes a byte. The others are double quotes (34) and back quotes (96).
abbrev pub quote_after : Quote → ℕ → Quote
quote_after Outside b = if b == 39 then Single else if b == 34 then Double else if b == 96 then Back else Outside
quote_after Single b = if b == 92 then Escaped else if b == 39 then Outside else Single
quote_after Escaped b = Single
quote_after Double b = if b == 34 then Outside else Double
quote_after Back b = if b == 96 then Outside else Back

abbrev pub is_outside : Quote → Bool
is_outside Outside = true
is_outside quote = false

-- they end with the line, or at a backslash outside of quotes
abbrev pub ends_arguments : Quote → ℕ → Bool
ends_arguments quote b = is_line_end b || ((b == 92) && is_outside quote)

abbrev pub arguments_end : Quote → List ℕ → ℕ
arguments_end quote [] = 0
arguments_end quote (b ∷ rest) = if ends_arguments quote b then 0 else 1 + arguments_end (quote_after quote b) rest

-- two backslashes mark the end of arguments, and belong to the command; one begins the next command
abbrev pub arguments_len : List ℕ → ℕ
arguments_len text =
    let n = arguments_end Outside text in
    if begins (drop n text) (codes "\\\\") then n + 2 else n

-- ---- commands

-- how many bytes a command has, from its backslash on
unfoldable pub command_len : List ℕ → ℕ
command_len text =
    if takes_line (drop 1 text) then position_or_len is_line_end text
    else let n = 1 + prefix_len is_word_part (drop 1 text) in n + arguments_len (drop n text)

-- a command: a backslash, its word and its arguments
abbrev pub psql_command : List ℕ → Option Token
psql_command text =
    when ((first text == 92) && is_command_start (slice_index text 1)) (token (PsqlCommand (ends_query (drop 1 text))) (command_len text))
