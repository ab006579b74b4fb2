-- What was told of a script on the way through it. Only private functions speak of it.
use Rattle.std.specs.Prelude.{◌≡◌, ◌≢◌, ◌⊎◌, ◌≤◌, ℕ, ◌+◌, ◌-◌, ◌^◌, min, List, [], ◌∷◌, ◌++◌, Err, IfErr, IfOk, Ok, OnOk, Option, Result, drop, length, map, string_bytes, take}
use Rattle.std.specs.Io.KnownBytes.{Appends, Consumes, IsAtEnd}
use Rattle.squawk_kinds.specs.EngineNames.{names_of}
use Rattle.squawk_kinds.specs.KindNames.{Names}
use Rattle.squawk_table.specs.Sent.{sent_list}
use Rattle.squawk_table.specs.declared.shortcuts.str_step.OwnedStep.{OwnedStep}
use Rattle.squawk_table.specs.declared.shortcuts.str_step.OwnedStep.TheVariants.{Enter, Exit}
use Rattle.squawk_tokens.specs.LexicalErrors.{LexicalError, shifted}
use Rattle.sql_lexer.specs.ScriptLexing.{place_of}
use Rattle.sql_lexer.specs.declared.script.script_place.ScriptPlace.{ScriptPlace}
use Rattle.sql_grammar.specs.ReadParts.{AreBefore, IsScriptParse, ReadSoFar, begun_with}
use Rattle.sql_grammar.specs.Parts.{moved_by}
use Rattle.sql_grammar.specs.declared.script_parts.ScriptPart.{ScriptPart}
use Rattle.sql_reader.specs.declared.script_text.Next.TheVariants.{End}
use Rattle.sql_reader.specs.declared.script_text.ScriptText.{ScriptText}
use Rattle.sql_report.specs.ErrorLines.{HasShown}
use Rattle.sql_report.specs.OnTheWay.{HasWalked}
use Rattle.sql_report.specs.Places.{AreCountable, IsLineColumn, IsPartOfWindow, Spot}
use Rattle.sql_report.specs.Statements.{HasStatements, statement_lines}
use Rattle.sql_report.specs.declared.line_column.LineColumn.{LineColumn}
use Rattle.sql_report.specs.declared.statement_list.Statement.{Statement}
use Rattle.sql_tree.specs.Listings.{asked_for}
use Rattle.sql_tree.specs.Reports.{IsAllRead, IsFront, ReadsAll, StopsScript}
use Rattle.sql_tree.specs.declared.options.Listing.{Listing}
use Rattle.sql_tree.specs.declared.options.Listing.TheVariants.{Statements, Quiet}
use Rattle.sql_tree.specs.declared.sql.Sql.{Sql}
use Rattle.sql_tree.specs.declared.stop.Stop.{Stop}
use Rattle.sql_tree.specs.declared.stop.Stop.TheVariants as stop
use Rattle.sql_tree.specs.declared.telling.Telling.{Telling}
use Rattle.sql_tree.specs.declared.unread.Unread.{Unread}
use Rattle.sql_tree.specs.declared.unread.Unread.TheVariants.{OutOfMemory}

-- what is listed of these statements, or drawn
abbrev pub listed_so_far : Listing → List ℕ → Names → List Statement → List ℕ → List ℕ
listed_so_far Statements script names ended drawn = statement_lines script names ended
listed_so_far listing script names ended drawn = drawn

-- what a telling is of, and keeps between parts
pub record IsTelling (sql : Sql) (listing : Listing) (name : List ℕ) (t : Telling) : Type 0 where
  pub sql_is : t.sql.now ≡ sql
  pub listing_is : t.listing ≡ listing
  pub name_is : t.errors.name.now ≡ name
  pub names : t.lines.names ≡ names_of sql.names.items
  pub listed : string_bytes t.lines.lines ≡ []
  pub kind_names : t.walk.kind_names ≡ names_of sql.names.items
  pub asked : t.walk.asked ≡ asked_for listing

-- What is listed of these steps is printed.
pub record HasListed (script out : List ℕ) (done : List OwnedStep) (t : Telling) : Type 0 where
  pub drawn : List ℕ
  pub walked : HasWalked drawn t.walk done
  pub ended : List Statement
  pub counted : t.listing ≢ Quiet → HasStatements done ended × (t.statement_count ≡ min (length ended) (2 ^ 64 - 1))
  pub out_is : out ≡ listed_so_far t.listing script t.lines.names ended drawn

-- This is printed, and these lexical errors of a script and those of these steps.
pub record HasTold (script out errs : List ℕ) (lexical : List LexicalError) (done : List OwnedStep) (t : Telling) : Type 0 where
  pub shown : HasShown script errs lexical done t.errors
  pub none : t.errors.lines.items ≡ []
  pub listed : HasListed script out done t

-- Before a text, and with whatever stands after these unread bytes, if a script of at most 4294967295 bytes: so much of it is read,
-- and told.
pub record IsBefore (sql : Sql) (read unread : List ℕ) (place : ScriptPlace) (out errs : List ℕ) (t : Telling) : Type 0 where
  pub lexical : List LexicalError
  pub done : List OwnedStep
  pub holds : (rest : List ℕ) → length (read ++ (unread ++ rest)) ≤ 4294967295
      → ReadSoFar (begun_with place) sql.vocabulary sql.rules read (unread ++ rest) (place_of place) lexical done × HasTold (read ++ (unread ++ rest)) out errs lexical done t

-- where a text stands in a script: after these bytes, and before others that are in memory
pub record IsTextIn (read left : List ℕ) (before : LineColumn) (text : ScriptText) : Type 0 where
  pub passed : List ℕ
  pub window : passed ++ text.window.now ≡ read ++ (text.text.now ++ left)
  pub starts : length passed + text.start ≡ length read
  pub passed_is : text.passed ≡ min (length passed) (2 ^ 64 - 1)
  pub before_is : AreCountable passed → IsLineColumn passed before
  pub enough : (passed ≡ []) ⊎ (100 ≤ text.start)

-- a front of a script is told, all that can be where it isn't read on for this reason
pub record HasToldFront (sql : Sql) (script out errs : List ℕ) (reason : Unread) (t : Telling) : Type 0 where
  pub lexical : List LexicalError
  pub done : List OwnedStep
  pub front : IsFront sql script lexical done
  pub all_read : ReadsAll script front.left front.place reason
  pub told : HasTold script out errs lexical done t

-- ---- a part

-- With a part that begins at a byte of a script and at one of a window, this is printed more, if the script has at most 4294967295 bytes.
abbrev pub TellsMore : Spot → ℕ → ℕ → ScriptPart → List ℕ → List ℕ → Telling → Telling → Type 0
TellsMore place start in_window part more more_errs old new =
    (sql : Sql) (listing : Listing) (name script passed rest out errs : List ℕ) (lexical : List LexicalError) (done inner : List OwnedStep) (kind : ℕ)
    → IsTelling sql listing name old → IsPartOfWindow script passed rest place start in_window (length part.table.text) → length script ≤ 4294967295
    → sent_list part.table part.output.steps ≡ Enter kind ∷ inner ++ Exit ∷ [] → AreBefore start lexical done → HasTold script out errs lexical done old
    → HasTold script (out ++ more) (errs ++ more_errs) (lexical ++ map (shifted start) part.table.errors) (done ++ map (moved_by start) inner) new

-- ---- a text

-- what stops a telling, if the text isn't read on
abbrev pub IfUnread : Stop → (Unread → Type 0) → Type 0
IfUnread (stop.Unread reason) P = P reason
IfUnread (stop.Output error) P = Unit {0}

-- the same, if it can't be printed
abbrev pub IfOutput : Stop → Type 0 → Type 0
IfOutput (stop.Unread reason) P = Unit {0}
IfOutput (stop.Output error) P = P

-- what was printed can be told
abbrev pub IfPrinted : {X : Type 0} → Result X Stop → Type 0 → Type 0
IfPrinted (Ok x) P = P
IfPrinted (Err (stop.Unread reason)) P = P
IfPrinted (Err (stop.Output error)) P = Unit {0}

-- a whole script is told
pub record HasToldWhole (sql : Sql) (script out errs : List ℕ) (t : Telling) : Type 0 where
  pub lexical : List LexicalError
  pub done : List OwnedStep
  pub parse : IsScriptParse sql.vocabulary script lexical (done ++ Exit ∷ [])
  pub front : IsFront sql script lexical done
  pub told : HasTold script out errs lexical done t

-- After a text, or where it isn't told on: what was printed for it before, and how far it is told.
pub record AfterText (sql : Sql) (listing : Listing) (name read left : List ℕ) (text : ScriptText) (out errs : List ℕ)
    (printed printed_now printed_errors printed_errors_now : Option (List ℕ)) (t : Telling) (result : Result (ℕ × ScriptPlace) Stop) : Type 0 where
  pub more : List ℕ
  pub more_errs : List ℕ
  pub prints : IfPrinted result (Appends printed printed_now more)
  pub prints_errors : IfPrinted result (Appends printed_errors printed_errors_now more_errs)
  pub within : IfOk result (λ both. both.0 ≤ length text.text.now)
  pub telling : IfOk result (λ both. IsTelling sql listing name t)
  pub goes_on : IfOk result (λ both. text.next ≢ End → IsBefore sql (read ++ take both.0 text.text.now) (drop both.0 text.text.now ++ left) both.1 (out ++ more) (errs ++ more_errs) t)
  pub full : IfOk result (λ both. text.next ≢ End → IsAllRead (drop both.0 text.text.now ++ left) (place_of both.1) left)
  pub ends : IfOk result (λ both. text.next ≡ End → length (read ++ (text.text.now ++ left)) ≤ 4294967295 → HasToldWhole sql (read ++ (text.text.now ++ left)) (out ++ more) (errs ++ more_errs) t)
  pub stays : IfErr result (λ stop. IfUnread stop (λ reason. reason ≢ OutOfMemory → IsTelling sql listing name t))
  pub stops : IfErr result (λ stop. IfUnread stop (λ reason. reason ≢ OutOfMemory → length (read ++ (text.text.now ++ left)) ≤ 4294967295
      → StopsScript sql (read ++ (text.text.now ++ left)) reason × HasToldFront sql (read ++ (text.text.now ++ left)) (out ++ more) (errs ++ more_errs) reason t))

-- ---- a script

-- After a script, or where it isn't told on: what the reader gave, what was printed, and how far the script is told.
pub record AfterScript (remaining : Option (List ℕ)) (sql : Sql) (listing : Listing) (name : List ℕ) (printed printed_now printed_errors printed_errors_now : Option (List ℕ)) (t : Telling)
    (result : Result Unit Stop) : Type 0 where
  pub script : List ℕ
  pub after : Option (List ℕ)
  pub read : Consumes remaining after script
  pub end : OnOk result (IsAtEnd after)
  pub out : List ℕ
  pub errs : List ℕ
  pub prints : IfPrinted result (Appends printed printed_now out)
  pub prints_errors : IfPrinted result (Appends printed_errors printed_errors_now errs)
  pub telling : OnOk result (IsTelling sql listing name t)
  pub whole : OnOk result (length script ≤ 4294967295 → HasToldWhole sql script out errs t)
  pub stays : IfErr result (λ stop. IfUnread stop (λ reason. reason ≢ OutOfMemory → IsTelling sql listing name t))
  pub stops : IfErr result (λ stop. IfUnread stop (λ reason. reason ≢ OutOfMemory → length script ≤ 4294967295 → StopsScript sql script reason × HasToldFront sql script out errs reason t))
