-- The words that tell where a statement ends and whether data follow it.
use Rattle.std.specs.Prelude.{ℕ, zero, suc, ◌-◌, ◌==◌, ◌&&◌, ◌||◌, Bool, false, List, [], ◌∷◌, take, drop, codes, if◌then◌else◌}
use Rattle.std.specs.Str.{str_eq_ignore_ascii_case}
use Rattle.squawk_tokens.specs.declared.token.TokenKind.{TokenKind}
use Rattle.squawk_tokens.specs.declared.token.TokenKind.TheVariants.{Whitespace, LineComment, BlockComment, Ident, PsqlCommand, Semi, OpenParen, CloseParen, OpenBracket, CloseBracket, Dot as DotKind}
use Rattle.sql_lexer.specs.declared.statements.Word.{Word}
use Rattle.sql_lexer.specs.declared.statements.Word.TheVariants.{Trivia, Semicolon, QueryEnd, CopyCommand, Command, Open, Close, Dot, As, Copy, From, Stdin, Create, Or, Replace, Function, Procedure, Rule, Begin, Atomic, Case, End, Other}
use Rattle.sql_lexer.specs.declared.statements.Statement.{Statement}
use Rattle.sql_lexer.specs.declared.statements.Statement.TheVariants.{Start}
use Rattle.sql_lexer.specs.Psql.{is_copy, word}
use Rattle.sql_lexer.specs.Rules.{first}
use Rattle.sql_lexer.specs.Statements.{after, data_follow}
use Rattle.sql_lexer.specs.Tokens.{first_token}

-- the names that are looked at; PostgreSQL takes COPY FROM STDOUT for COPY FROM STDIN
abbrev pub names : List (List ℕ × Word)
names =
    (codes "as", As) ∷ (codes "or", Or) ∷ (codes "end", End) ∷ (codes "copy", Copy) ∷ (codes "from", From) ∷ (codes "rule", Rule) ∷ (codes "case", Case)
    ∷ (codes "stdin", Stdin) ∷ (codes "begin", Begin) ∷ (codes "stdout", Stdin) ∷ (codes "create", Create) ∷ (codes "atomic", Atomic)
    ∷ (codes "replace", Replace) ∷ (codes "function", Function) ∷ (codes "procedure", Procedure) ∷ []

-- the word of a name, small or capital
abbrev pub word_in : List (List ℕ × Word) → List ℕ → Word
word_in [] name = Other
word_in (row ∷ rows) name = if str_eq_ignore_ascii_case name row.0 then row.1 else word_in rows name

-- the word of a token with this text; any command of psql that ends no query is like another
abbrev pub plain_word : TokenKind → List ℕ → Word
plain_word Whitespace text = Trivia
plain_word LineComment text = Trivia
plain_word (BlockComment terminated) text = Trivia
plain_word Ident text = word_in names text
plain_word (PsqlCommand ends_query) text = if ends_query then QueryEnd else Command
plain_word Semi text = Semicolon
plain_word OpenParen text = Open
plain_word OpenBracket text = Open
plain_word CloseParen text = Close
plain_word CloseBracket text = Close
plain_word DotKind text = Dot
plain_word kind text = Other

-- Whether a text without its first n bytes, read as the rest of a statement, has COPY that data follow. The end of the
-- text stands for its semicolon.
abbrev pub has_copy : Statement → ℕ → List ℕ → Bool
has_copy statement n [] = data_follow statement Semicolon
has_copy statement (suc n) (b ∷ rest) = has_copy statement n rest
has_copy statement zero (b ∷ rest) =
    let found = first_token (b ∷ rest) in
    let word = plain_word found.kind (take found.len (b ∷ rest)) in
    data_follow statement word || has_copy (after statement word) (found.len - 1) rest

-- `\copy` with FROM STDIN: what stands behind the backslash (92) is such a COPY
abbrev pub is_copy_command : List ℕ → Bool
is_copy_command text = (first text == 92) && is_copy (word (drop 1 text)) && has_copy Start 0 (drop 1 text)

-- the word of a token
abbrev pub word_of : TokenKind → List ℕ → Word
word_of (PsqlCommand false) text = if is_copy_command text then CopyCommand else Command
word_of kind text = plain_word kind text
