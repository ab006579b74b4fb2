-- What is told of a script.
use Rattle.std.specs.Prelude.{◌≡◌, ◌≢◌, ℕ, ◌-◌, ◌^◌, ◌+◌, ◌<◌, min, List, [], ◌∷◌, ◌++◌, All, None, Some, drop, length}
use Rattle.std.specs.Str.{IsValidUpTo}
use Rattle.squawk_kinds.specs.EngineNames.{names_of}
use Rattle.squawk_output.specs.Steps.{Step}
use Rattle.squawk_parser.specs.declared.parser.parse_error.ParseError.{ParseError}
use Rattle.squawk_parser.specs.declared.parser.parse_error.ParseError.TheVariants as parse
use Rattle.squawk_table.specs.RawTable.{Table}
use Rattle.squawk_table.specs.Sent.{sent_list}
use Rattle.squawk_table.specs.Shape.{Fits}
use Rattle.squawk_table.specs.declared.shortcuts.str_step.OwnedStep.{OwnedStep}
use Rattle.squawk_table.specs.declared.shortcuts.str_step.OwnedStep.TheVariants.{Exit}
use Rattle.squawk_tokens.specs.LexicalErrors.{LexicalError}
use Rattle.sql_lexer.specs.ScriptLexing.{Lexing}
use Rattle.sql_lexer.specs.declared.script.places.Place.{Place}
use Rattle.sql_lexer.specs.declared.script.script_place.ScriptPlace.{ScriptPlace}
use Rattle.sql_words.specs.SqlKinds.{names}
use Rattle.sql_words.specs.SqlVocabulary.{KnowsKeywords}
use Rattle.sql_grammar.specs.ReadParts.{IsRefusedPart, IsScriptParse, NoneEnds, ReadSoFar}
use Rattle.sql_grammar.specs.declared.script_parts.Progress.{Progress}
use Rattle.sql_report.specs.ErrorLines.{error_texts}
use Rattle.sql_report.specs.Findings.{AreInOrder, all_told}
use Rattle.sql_report.specs.JsonTrees.{HasTreeLines}
use Rattle.sql_report.specs.Statements.{statements_of}
use Rattle.sql_report.specs.declared.finding_list.Finding.{Finding}
use Rattle.sql_tree.specs.Listings.{listed_in_parts}
use Rattle.sql_tree.specs.declared.options.Listing.{Listing}
use Rattle.sql_tree.specs.declared.options.Listing.TheVariants.{Json, Quiet, Tokens}
use Rattle.sql_tree.specs.declared.report.Report.{Report}
use Rattle.sql_tree.specs.declared.sql.Sql.{Sql}
use Rattle.sql_tree.specs.declared.unread.Unread.{Unread}
use Rattle.sql_tree.specs.declared.unread.Unread.TheVariants.{Io, NotUtf8, TextTooLong, TooManyEvents, TooManyErrors, OutOfMemory}

-- it knows PostgreSQL's keywords, and the names of all kinds
pub record IsSql (sql : Sql) : Type 0 where
  pub keywords : KnowsKeywords sql.vocabulary
  pub named : names_of sql.names.items ≡ names

-- A front of a script is read, and its parse has these lexical errors and these steps, up to the end of the root.
pub record IsFront (sql : Sql) (script : List ℕ) (lexical : List LexicalError) (done : List OwnedStep) : Type 0 where
  pub read : List ℕ
  pub left : List ℕ
  pub script_is : script ≡ read ++ left
  pub progress : Progress
  pub place : Place
  pub so_far : ReadSoFar progress sql.vocabulary sql.rules read left place lexical done

-- No other statement or line of data can end in what is left of a script, up to the last line feed before some bytes.
pub record IsAllRead (left : List ℕ) (place : Place) (bad : List ℕ) : Type 0 where
  pub lexer : Lexing
  pub tail : List ℕ
  pub left_is : left ≡ drop lexer.at lexer.text ++ (tail ++ bad)
  pub place_is : lexer.place ≡ place
  pub none : NoneEnds lexer
  pub no_feed : All (λ byte. byte ≢ 10) tail

-- Where a reader fails, all is read up to the last line feed before fewer than four bytes, with which a character may begin; where
-- a byte isn't UTF-8, before this byte.
abbrev pub ReadsAll : List ℕ → List ℕ → Place → Unread → Type 0
ReadsAll script left place (Io kind) = (bad : List ℕ) × ((length bad < 4) × IsAllRead left place bad)
ReadsAll script left place (NotUtf8 at) = (bad : List ℕ) × ((at + length bad ≡ length script) × IsAllRead left place bad)
ReadsAll script left place TextTooLong = Unit {0}
ReadsAll script left place TooManyEvents = Unit {0}
ReadsAll script left place TooManyErrors = Unit {0}
ReadsAll script left place OutOfMemory = Unit {0}

-- the parse of some statements of a script is refused
pub record IsRefusedIn (sql : Sql) (script : List ℕ) (reason : ParseError) : Type 0 where
  pub before : List ℕ
  pub text : List ℕ
  pub after : List ℕ
  pub script_is : script ≡ before ++ (text ++ after)
  pub place : ScriptPlace
  pub refused : IsRefusedPart sql.vocabulary place text reason

-- Why a script of at most 4294967295 bytes isn't told of to its end. At want of memory nothing is said of it, nor of why reading fails.
abbrev pub StopsScript : Sql → List ℕ → Unread → Type 0
StopsScript sql script (Io kind) = Unit {0}
StopsScript sql script (NotUtf8 at) = IsValidUpTo script at
StopsScript sql script TextTooLong = ⊥
StopsScript sql script TooManyEvents = IsRefusedIn sql script parse.TooManyEvents
StopsScript sql script TooManyErrors = IsRefusedIn sql script parse.TooManyErrors
StopsScript sql script OutOfMemory = Unit {0}

-- What goes to the standard output is what is listed of the steps, up to the end of the root, and what goes to the standard error
-- output are the lexical errors and those that are sent, in the order of their places. Both statements and errors are counted. With
-- --json the listing has values of JSON: the statements of a tree that is sent.
pub record IsPrinted (sql : Sql) (listing : Listing) (name script out errs : List ℕ) (lexical : List LexicalError) (done : List OwnedStep) (statement_count error_count : ℕ) : Type 0 where
  pub findings : List Finding
  pub in_order : AreInOrder (all_told lexical done) findings
  pub errors : errs ≡ error_texts name script findings
  pub errors_counted : error_count ≡ min (length findings) (2 ^ 64 - 1)
  pub list : out ≡ listed_in_parts sql listing script (done ++ Exit ∷ [])
  pub values : listing ≡ Json → (table : Table) (steps : List Step) → Fits table steps → sent_list table steps ≡ done ++ Exit ∷ [] → HasTreeLines (names_of sql.names.items) (done ++ Exit ∷ []) out
  pub statements_counted : listing ≢ Quiet → statement_count ≡ min (length (statements_of (done ++ Exit ∷ []))) (2 ^ 64 - 1)

-- What is told of a script, as far as it is read: of a whole one, of its parse. Raw tokens alone are told of whole scripts alone.
pub record IsTold (sql : Sql) (listing : Listing) (name script out errs : List ℕ) (report : Report) : Type 0 where
  pub lexical : List LexicalError
  pub done : List OwnedStep
  pub front : IsFront sql script lexical done
  pub whole : report.unread ≡ None → IsScriptParse sql.vocabulary script lexical (done ++ Exit ∷ [])
  pub all_read : (reason : Unread) → report.unread ≡ Some reason → listing ≢ Tokens → ReadsAll script front.left front.place reason
  pub printed : IsPrinted sql listing name script out errs lexical done report.statement_count report.error_count

-- What is told of a script of at most 4294967295 bytes, and why not more. At want of memory it isn't said what was told before.
pub record IsToldOf (sql : Sql) (listing : Listing) (name script out errs : List ℕ) (report : Report) : Type 0 where
  pub told : report.unread ≢ Some OutOfMemory → IsTold sql listing name script out errs report
  pub stops : (reason : Unread) → report.unread ≡ Some reason → StopsScript sql script reason
