-- Which tokens end a statement, as the tokenizer of scripts has it.
use Rattle.std.specs.Prelude.{ℕ, zero, suc, ◌+◌, ◌-◌, Bool, true, false, List, [], ◌∷◌, take, slice_range, if◌then◌else◌}
use Rattle.squawk_tokens.specs.declared.token.Token.{Token}
use Rattle.sql_lexer.specs.declared.script.places.Place.{Place}
use Rattle.sql_lexer.specs.declared.script.places.Place.TheVariants.{Front, Sql, Data}
use Rattle.sql_lexer.specs.declared.statements.Statement.{Statement}
use Rattle.sql_lexer.specs.declared.statements.Statement.TheVariants.{Start}
use Rattle.sql_lexer.specs.declared.statements.Word.{Word}
use Rattle.sql_lexer.specs.declared.statements.Word.TheVariants.{Trivia}
use Rattle.sql_lexer.specs.Scripts.{place_behind, token_at}
use Rattle.sql_lexer.specs.ScriptWords.{plain_word}
use Rattle.sql_lexer.specs.Statements.{ends_with}

-- the statement at a place
abbrev pub statement_at : Place → Statement
statement_at Front = Start
statement_at (Sql statement) = statement
statement_at (Data left statement waiting) = statement

-- the word of the token in front; a line of data is a command of psql
abbrev pub word_at : Place → List ℕ → Word
word_at place text = let found = token_at place text in plain_word found.kind (take found.len text)

abbrev pub is_passed_over : Word → Bool
is_passed_over Trivia = true
is_passed_over word = false

-- for each token of what is left of a text after n bytes, but for trivia, whether a statement ends with it
abbrev pub ends_from : Place → ℕ → List ℕ → List Bool
ends_from place n [] = []
ends_from place (suc n) (b ∷ rest) = ends_from place n rest
ends_from place zero (b ∷ rest) =
    let others = ends_from (place_behind place (b ∷ rest)) ((token_at place (b ∷ rest)).len - 1) rest in
    let word = word_at place (b ∷ rest) in
    if is_passed_over word then others else ends_with (statement_at place) word ∷ others

-- those of a script
abbrev pub script_ends : List ℕ → List Bool
script_ends text = ends_from Front 0 text

-- the words of tokens that stand one after another from a place on
abbrev pub words_from : List ℕ → ℕ → List Token → List Word
words_from text at [] = []
words_from text at (t ∷ ts) = plain_word t.kind (slice_range text at (at + t.len)) ∷ words_from text (at + t.len) ts
