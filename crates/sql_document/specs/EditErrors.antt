-- The lines of refusals, and what they come from.
use Rattle.std.specs.Prelude.{◌≡◌, ◌<◌, ℕ, List, ◌++◌, codes, length}
use Rattle.squawk_parser.specs.ErrorLines.{parse_error_line}
use Rattle.squawk_parser.specs.declared.parser.parse_error.ParseError.{ParseError}
use Rattle.squawk_parser.specs.declared.parser.parse_error.ParseError.TheVariants as parse
use Rattle.sql_lexer.specs.declared.tokenizer.TokenizeError.{TokenizeError}
use Rattle.sql_lexer.specs.declared.tokenizer.TokenizeError.TheVariants as lexer
use Rattle.sql_lexer.specs.declared.script.script_place.ScriptPlace.{ScriptPlace}
use Rattle.squawk_keywords.specs.declared.keywords.Keywords.{Keywords}
use Rattle.sql_words.specs.SqlVocabulary.{KnowsKeywords}
use Rattle.sql_grammar.specs.ReadParts.{IsRefusedPart}
use Rattle.sql_document.specs.Pieces.{IsRange, edited}
use Rattle.sql_document.specs.declared.edit_error.EditError.{EditError}
use Rattle.sql_document.specs.declared.edit_error.EditError.TheVariants.{NoRange, TextTooLong, OutOfMemory, Parse}

-- why a text isn't edited
abbrev pub edit_error_line : EditError → List ℕ
edit_error_line NoRange = codes "no range of the text"
edit_error_line TextTooLong = codes "text too long"
edit_error_line OutOfMemory = codes "memory"
edit_error_line (Parse reason) = parse_error_line reason

abbrev pub error_of_lexer : TokenizeError → EditError
error_of_lexer lexer.TextTooLong = TextTooLong
error_of_lexer lexer.OutOfMemory = OutOfMemory

abbrev pub error_of_parse : ParseError → EditError
error_of_parse parse.OutOfMemory = OutOfMemory
error_of_parse reason = Parse reason

-- The parse of some statements is refused, which stand in a part of the text.
pub record RefusesStatements (text : List ℕ) (reason : ParseError) : Type 0 where
  pub vocabulary : Keywords
  pub knows : KnowsKeywords vocabulary
  pub before : List ℕ
  pub part : List ℕ
  pub after : List ℕ
  pub are : text ≡ before ++ (part ++ after)
  pub place : ScriptPlace
  pub refused : IsRefusedPart vocabulary place part reason

-- why a text isn't parsed
abbrev pub RefusesText : List ℕ → EditError → Type 0
RefusesText text NoRange = ⊥
RefusesText text TextTooLong = 4294967295 < length text
RefusesText text OutOfMemory = Unit {0}
RefusesText text (Parse reason) = RefusesStatements text reason

-- why a text isn't edited
abbrev pub RefusesEdit : ℕ → ℕ → List ℕ → List ℕ → EditError → Type 0
RefusesEdit start end replacement text NoRange = ¬ (IsRange start end text)
RefusesEdit start end replacement text reason = RefusesText (edited start end replacement text) reason
