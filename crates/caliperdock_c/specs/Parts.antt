-- What is written of a part of a script, and why nothing is.
use Rattle.std.specs.Prelude.{◌≡◌, ◌⊎◌, ◌≤◌, ℕ, zero, suc, ◌+◌, min, Bool, true, false, Option, Some, None, List, length, map}
use Rattle.squawk_keywords.specs.declared.keywords.Keywords.{Keywords}
use Rattle.squawk_parser.specs.declared.parser.parse_error.ParseError.{ParseError}
use Rattle.squawk_table.specs.Sent.{sent_list}
use Rattle.squawk_table.specs.Shape.{Fits}
use Rattle.rule_grammar.specs.declared.rules.RuleGrammar.{RuleGrammar}
use Rattle.sql_grammar.specs.ReadParts.{BeginsText, IsOfStatements, IsOver, IsRefusedPart, NoneLeft, Reading}
use Rattle.sql_grammar.specs.WholeLines.{AreWholeLines}
use Rattle.sql_grammar.specs.declared.script_parts.ScriptPart.{ScriptPart}
use Rattle.sql_lexer.specs.ScriptLexing.{script_place}
use Rattle.sql_lexer.specs.declared.script.script_place.ScriptPlace.{ScriptPlace}
use Rattle.sql_lexer.specs.declared.script.script_place.ScriptPlace.TheVariants.{Front, Inside}
use Rattle.sql_report.specs.Statements.{statements_of}
use Rattle.sql_words.specs.SqlVocabulary.{KnowsKeywords}
use Rattle.caliperdock_c.specs.Overlays.{over}
use Rattle.caliperdock_c.specs.Sent.{AreWritten, HasRoom, no_counts}
use Rattle.caliperdock_c.specs.Sql.{RefusesSql}
use Rattle.caliperdock_c.specs.Statements.{numbered_statement}
use Rattle.caliperdock_c.specs.declared.answer.Refusal.{Refusal}
use Rattle.caliperdock_c.specs.declared.errors.CError.{CError}
use Rattle.caliperdock_c.specs.declared.part.CPartCounts.{CPartCounts}
use Rattle.caliperdock_c.specs.declared.statement.CStatement.{CStatement}
use Rattle.caliperdock_c.specs.declared.steps.CStep.{CStep}

-- ---- what is given

-- The number of a place: 0 at the front of a script, and else one more than how many COPY statements wait for data, as far as
-- a `u32` counts.
abbrev pub place_of_number : ℕ → ScriptPlace
place_of_number zero = Front
place_of_number (suc n) = Inside n

abbrev pub number_of_place : Option ScriptPlace → ℕ
number_of_place None = 0
number_of_place (Some Front) = 0
number_of_place (Some (Inside n)) = min (n + 1) 4294967295

-- whether a number says yes
abbrev pub is_told : ℕ → Bool
is_told zero = false
is_told (suc n) = true

-- what is read of a text: all of the last one, and of another one its lines that end
abbrev pub IsReadOf : Bool → List ℕ → List ℕ → Type 0
IsReadOf true text read = read ≡ text
IsReadOf false text read = AreWholeLines text read

-- ---- refusals

-- some statements of what is read are refused
pub record IsRefusedFrom (place : ℕ) (is_last : Bool) (read : List ℕ) (reason : ParseError) : Type 0 where
  pub keywords : Keywords
  pub known : KnowsKeywords keywords
  pub reading : Reading
  pub begins : BeginsText read (place_of_number place) is_last reading
  pub refused : IsRefusedPart keywords reading.begun reading.lexer.text reason

-- why nothing is written
abbrev pub RefusesPart : List ℕ → ℕ → Bool → Refusal → Type 0
RefusesPart text place is_last reason = (read : List ℕ) × IsReadOf is_last text read × RefusesSql (IsRefusedFrom place is_last) read reason

-- ---- what is written

-- nothing is read
abbrev pub no_part : ℕ → CPartCounts
no_part place = record { bytes = 0; place = place; statements = 0; sent = no_counts }

-- there is room for all
pub record HasPartRoom (statements : List CStatement) (steps : List CStep) (errors : List CError) (texts : List ℕ) (counts : CPartCounts) : Type 0 where
  pub statements_fit : counts.statements ≤ length statements
  pub sent_fit : HasRoom steps errors texts counts.sent

-- The next statements of a script are written, up to the last that is sure to end in the text: in numbers, over what stood there
-- before, with the place after them.
pub record WritesPart (old : Reading) (statements : List CStatement) (steps : List CStep) (errors : List CError) (texts : List ℕ)
    (new_statements : List CStatement) (new_steps : List CStep) (new_errors : List CError) (new_texts : List ℕ) (counts : CPartCounts) : Type 0 where
  pub keywords : Keywords
  pub known : KnowsKeywords keywords
  pub rules : RuleGrammar
  pub new : Reading
  pub part : ScriptPart
  pub is_next : IsOfStatements keywords rules old new part
  pub none_left : NoneLeft new.is_last new.lexer
  pub bytes : counts.bytes ≡ new.lexer.at
  pub place : counts.place ≡ number_of_place (script_place new.lexer.place)
  pub fits : Fits part.table part.output.steps
  pub statements_are : new_statements ≡ over (map numbered_statement (statements_of (sent_list part.table part.output.steps))) statements
  pub statement_count : counts.statements ≡ length (statements_of (sent_list part.table part.output.steps))
  pub whole : counts.sent.whole ≡ 1
  pub written : AreWritten part.table (sent_list part.table part.output.steps) steps errors texts new_steps new_errors new_texts counts.sent

-- no statement is sure to end in the text, and nothing is written
pub record WritesNothing (place : ℕ) (old : Reading) (statements : List CStatement) (steps : List CStep) (errors : List CError) (texts : List ℕ)
    (new_statements : List CStatement) (new_steps : List CStep) (new_errors : List CError) (new_texts : List ℕ) (counts : CPartCounts) : Type 0 where
  pub over : IsOver old old
  pub none : counts ≡ no_part place
  pub statements_stay : new_statements ≡ statements
  pub steps_stay : new_steps ≡ steps
  pub errors_stay : new_errors ≡ errors
  pub texts_stay : new_texts ≡ texts

-- The next part of a script is written, which goes on at a place with a text.
pub record IsPartWritten (text : List ℕ) (place : ℕ) (is_last : Bool) (statements : List CStatement) (steps : List CStep) (errors : List CError) (texts : List ℕ)
    (new_statements : List CStatement) (new_steps : List CStep) (new_errors : List CError) (new_texts : List ℕ) (counts : CPartCounts) : Type 0 where
  pub read : List ℕ
  pub is_read : IsReadOf is_last text read
  pub old : Reading
  pub begins : BeginsText read (place_of_number place) is_last old
  pub is : WritesPart old statements steps errors texts new_statements new_steps new_errors new_texts counts
      ⊎ WritesNothing place old statements steps errors texts new_statements new_steps new_errors new_texts counts
