-- Where statements of a script end: with the same tokens in its parse as where it was cut.
use Rattle.std.specs.Prelude.{◌≡◌, ℕ, zero, suc, ◌+◌, Bool, true, false, List, [], ◌∷◌, IsUtf8, map}
use Rattle.squawk_keywords.specs.KeywordAnswers.{contextual_keyword_of, keyword_of}
use Rattle.squawk_keywords.specs.declared.keywords.Keywords.{Keywords}
use Rattle.squawk_table.specs.ParserInput.{input_of, kinds_in}
use Rattle.squawk_table.specs.RawTable.{Table, table_of}
use Rattle.sql_lexer.specs.ScriptEnds.{script_ends}
use Rattle.sql_lexer.specs.Scripts.{script_tokens}
use Rattle.sql_words.specs.SqlVocabulary.{KnowsKeywords}
use Rattle.sql_grammar.specs.Statements.{statements_of}

-- a table of a script's tokens, by a vocabulary of PostgreSQL's keywords
pub record IsScript (vocabulary : Keywords) (table : Table) : Type 0 where
  pub knows : KnowsKeywords vocabulary
  pub utf8 : IsUtf8 table.text
  pub is : table ≡ table_of (keyword_of vocabulary) table.text (script_tokens table.text)

-- how many tokens statements have by those that end one, the first with so many before
abbrev pub lens_of : List Bool → ℕ → List ℕ
lens_of [] zero = []
lens_of [] (suc n) = suc n ∷ []
lens_of (true ∷ ends) n = (n + 1) ∷ lens_of ends 0
lens_of (false ∷ ends) n = lens_of ends (n + 1)

-- the statements end with the tokens with which one ends in the script
abbrev pub EndAsCut : Keywords → Table → Type 0
EndAsCut vocabulary table =
    map (λ statement. statement.len) (statements_of (kinds_in (input_of (contextual_keyword_of vocabulary) table))) ≡ lens_of (script_ends table.text) 0
