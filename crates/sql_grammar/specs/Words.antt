-- What kinds are to a statement.
use Rattle.std.specs.Prelude.{ℕ, ◌==◌, List, [], ◌∷◌, if◌then◌else◌}
use Rattle.squawk_kinds.specs.Kinds.{COMMENT, DOT, FROM_KW, L_BRACK, L_PAREN, PSQL_COMMAND_TEXT, PSQL_TERMINATOR_TEXT, R_BRACK, R_PAREN, SEMICOLON, WHITESPACE}
use Rattle.sql_lexer.specs.declared.statements.Word.{Word}
use Rattle.sql_lexer.specs.declared.statements.Word.TheVariants.{Trivia, Semicolon, QueryEnd, Command, Open, Close, Dot, As, Copy, From, Stdin, Create, Or, Replace, Function, Procedure, Rule, Begin, Atomic, Case, End, Other}
use Rattle.sql_grammar.specs.Kinds.{AS_KW, ATOMIC_KW, BEGIN_KW, CASE_KW, COPY_KW, CREATE_KW, END_KW, FUNCTION_KW, OR_KW, PROCEDURE_KW, REPLACE_KW, RULE_KW, STDIN_KW, STDOUT_KW}

-- PostgreSQL takes COPY FROM STDOUT for COPY FROM STDIN
abbrev pub words : List (ℕ × Word)
words =
    (WHITESPACE, Trivia) ∷ (COMMENT, Trivia) ∷ (SEMICOLON, Semicolon) ∷ (PSQL_TERMINATOR_TEXT, QueryEnd) ∷ (PSQL_COMMAND_TEXT, Command)
    ∷ (L_PAREN, Open) ∷ (L_BRACK, Open) ∷ (R_PAREN, Close) ∷ (R_BRACK, Close) ∷ (DOT, Dot) ∷ (AS_KW, As) ∷ (COPY_KW, Copy)
    ∷ (FROM_KW, From) ∷ (STDIN_KW, Stdin) ∷ (STDOUT_KW, Stdin) ∷ (CREATE_KW, Create) ∷ (OR_KW, Or) ∷ (REPLACE_KW, Replace)
    ∷ (FUNCTION_KW, Function) ∷ (PROCEDURE_KW, Procedure) ∷ (RULE_KW, Rule) ∷ (BEGIN_KW, Begin) ∷ (ATOMIC_KW, Atomic)
    ∷ (CASE_KW, Case) ∷ (END_KW, End) ∷ []

abbrev pub word_in : List (ℕ × Word) → ℕ → Word
word_in [] kind = Other
word_in (row ∷ rows) kind = if kind == row.0 then row.1 else word_in rows kind

abbrev pub word_of : ℕ → Word
word_of kind = word_in words kind
