-- Where statements end, by the kinds of the tokens.
use Rattle.std.specs.Prelude.{ℕ, zero, suc, ◌+◌, ◌-◌, ◌==◌, ◌||◌, Bool, List, [], ◌∷◌, drop, if◌then◌else◌}
use Rattle.squawk_kinds.specs.Kinds.{EOF, L_PAREN, PSQL_COMMAND_TEXT, PSQL_TERMINATOR_TEXT}
use Rattle.sql_lexer.specs.Statements.{after, ends_with}
use Rattle.sql_lexer.specs.declared.statements.Statement as begun
use Rattle.sql_lexer.specs.declared.statements.Statement.TheVariants.{Plain, Start}
use Rattle.sql_grammar.specs.Kinds.{PSQL_COMMAND, STATEMENT}
use Rattle.sql_grammar.specs.Words.{word_of}
use Rattle.sql_grammar.specs.StatementKinds.{statement_kinds}

-- the first of these kinds, or the end's
abbrev pub first : List ℕ → ℕ
first [] = EOF
first (kind ∷ kinds) = kind

abbrev pub nth : List ℕ → ℕ → ℕ
nth kinds n = first (drop n kinds)

-- ---- the end

-- how many of these tokens the statement has yet: up to the word that ends it
abbrev pub len_from : begun.Statement → List ℕ → ℕ
len_from statement [] = 0
len_from statement (kind ∷ kinds) = if ends_with statement (word_of kind) then 1 else 1 + len_from (after statement (word_of kind)) kinds

-- how many tokens the first statement has
abbrev pub len_of : List ℕ → ℕ
len_of kinds = len_from Start kinds

-- how many tokens of a statement of so many stand before the sign that ends it
abbrev pub content_len : List ℕ → ℕ → ℕ
content_len kinds zero = 0
content_len kinds (suc n) = if ends_with Plain (word_of (nth kinds n)) then n else suc n

-- ---- kinds of statements

-- the kind for a word in a table
abbrev pub kind_for : ℕ → List (ℕ × ℕ) → ℕ
kind_for word [] = STATEMENT
kind_for word (row ∷ rows) = if row.0 == word then row.1 else kind_for word rows

-- the first word, which may stand in parentheses
abbrev pub first_word : List ℕ → ℕ
first_word [] = EOF
first_word (kind ∷ kinds) = if kind == L_PAREN then first_word kinds else kind

abbrev pub is_psql : ℕ → Bool
is_psql kind = (kind == PSQL_COMMAND_TEXT) || (kind == PSQL_TERMINATOR_TEXT)

-- The kind of the first statement: that of a command of psql, or the kind for its first word.
unfoldable pub kind_of : List ℕ → ℕ
kind_of kinds = if is_psql (nth kinds 0) then PSQL_COMMAND else kind_for (first_word kinds) statement_kinds

-- ---- all statements

-- a statement: its kind by its first word, how many tokens it has, and how many of them stand before the sign that ends it
pub record Statement : Type 0 where
  pub kind : ℕ
  pub len : ℕ
  pub content : ℕ

-- the first of these kinds
abbrev pub first_statement : List ℕ → Statement
first_statement kinds = record { kind = kind_of kinds; len = len_of kinds; content = content_len kinds (len_of kinds) }

-- the statements behind so many tokens, which are those of another
abbrev pub statements_behind : ℕ → List ℕ → List Statement
statements_behind n [] = []
statements_behind zero (kind ∷ kinds) = first_statement (kind ∷ kinds) ∷ statements_behind (len_of (kind ∷ kinds) - 1) kinds
statements_behind (suc n) (kind ∷ kinds) = statements_behind n kinds

abbrev pub statements_of : List ℕ → List Statement
statements_of kinds = statements_behind 0 kinds
