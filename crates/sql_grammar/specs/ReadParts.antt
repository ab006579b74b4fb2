-- A script that is read a part at a time.
use Rattle.std.specs.Prelude.{◌≡◌, ◌≢◌, ◌<◌, ◌≤◌, ◌&&◌, ℕ, ◌+◌, ◌-◌, nat_lt, is_some, Bool, true, false, Some, List, [], ◌∷◌, ◌++◌, All, IsUtf8, drop, length, map, slice_range, sum_by}
use Rattle.std.specs.Borrow.{Bor}
use Rattle.std.specs.Str.{chars}
use Rattle.squawk_keywords.specs.KeywordAnswers.{contextual_keyword_of, keyword_of}
use Rattle.squawk_keywords.specs.declared.keywords.Keywords.{Keywords}
use Rattle.squawk_output.specs.Steps.{Step, errors_in}
use Rattle.squawk_parser.specs.declared.parser.parse_error.ParseError.{ParseError}
use Rattle.squawk_table.specs.RawTable.{Table, table_of}
use Rattle.squawk_table.specs.Sent.{bytes_of, sent_list, texts_of}
use Rattle.squawk_table.specs.Shape.{Fits}
use Rattle.squawk_table.specs.declared.shortcuts.str_step.OwnedStep.{OwnedStep}
use Rattle.squawk_table.specs.declared.shortcuts.str_step.OwnedStep.TheVariants as sent
use Rattle.squawk_tokens.specs.AcceptedTokens.{AreAcceptedTokens}
use Rattle.squawk_tokens.specs.LexicalErrors.{LexicalError, shifted}
use Rattle.squawk_tokens.specs.declared.token.Token.{Token}
use Rattle.rule_grammar.specs.declared.rules.RuleGrammar.{RuleGrammar}
use Rattle.sql_lexer.specs.Lines.{EndsLine}
use Rattle.sql_lexer.specs.ScriptEnds.{statement_at}
use Rattle.sql_lexer.specs.ScriptLexing.{Lexing, after_statements, begun_at, longer, place_of, script_place, tokens_left}
use Rattle.sql_lexer.specs.Scripts.{script_tokens}
use Rattle.sql_lexer.specs.Statements.{is_start}
use Rattle.sql_lexer.specs.declared.script.places.Place.{Place}
use Rattle.sql_lexer.specs.declared.script.script_place.ScriptPlace.{ScriptPlace}
use Rattle.sql_lexer.specs.declared.script.script_place.ScriptPlace.TheVariants as script
use Rattle.sql_words.specs.SqlVocabulary.{KnowsKeywords}
use Rattle.sql_grammar.specs.Kinds.{SOURCE_FILE}
use Rattle.sql_grammar.specs.Parses.{AreByRules, AreOfFile, IsRefusedByRules}
use Rattle.sql_grammar.specs.Parts.{AreSame, EndsWithStatement, IsParsedPart, Part, moved_by, steps_of, table_by}
use Rattle.sql_grammar.specs.StrayStrings.{stray_strings}
use Rattle.sql_grammar.specs.WholeLines.{AreWholeLines}
use Rattle.sql_grammar.specs.declared.Detail.TheVariants.{Nodes}
use Rattle.sql_grammar.specs.declared.script_parts.Progress.{Progress}
use Rattle.sql_grammar.specs.declared.script_parts.Progress.TheVariants.{Front, Inside}
use Rattle.sql_grammar.specs.declared.script_parts.ScriptPart.{ScriptPart}

-- the lexer that cuts a text, the place of the script where the text begins, whether the script ends with it, and how far
-- reading is
pub record Reading : Type 0 where
  pub lexer : Lexing
  pub begun : ScriptPlace
  pub is_last : Bool
  pub progress : Progress

-- the tokens of a text that begins at a place
abbrev pub tokens_at : ScriptPlace → List ℕ → List Token
tokens_at place text = tokens_left (begun_at place text)

-- nothing of a script is read at its front
abbrev pub begun_with : ScriptPlace → Progress
begun_with script.Front = Front
begun_with (script.Inside waiting) = Inside

-- nothing is read of a text, or of its lines where other texts follow
pub record BeginsText (text : List ℕ) (place : ScriptPlace) (last : Bool) (r : Reading) : Type 0 where
  pub lexer : r.lexer ≡ begun_at place r.lexer.text
  pub begun : r.begun ≡ place
  pub is_last : r.is_last ≡ last
  pub progress : r.progress ≡ begun_with place
  pub all : last ≡ true → r.lexer.text ≡ text
  pub lines : last ≡ false → AreWholeLines text r.lexer.text

-- What stands before the lexer are tokens of the text, and a statement begins where it stands.
pub record StandsInText (place : ScriptPlace) (lexer : Lexing) : Type 0 where
  pub utf8 : IsUtf8 lexer.text
  pub accepted : AreAcceptedTokens lexer.text (tokens_at place lexer.text)
  pub front : List Token
  pub tokens : tokens_at place lexer.text ≡ front ++ tokens_left lexer
  pub bytes : sum_by (λ (t : Token). t.len) front ≡ lexer.at
  pub starts : lexer.at < length lexer.text → is_start (statement_at lexer.place) ≡ true

-- what it keeps of its text
pub record IsReading (r : Reading) (text : List ℕ) : Type 0 where
  pub of_text : r.lexer.text ≡ text
  pub stands : StandsInText r.begun r.lexer
  pub lines : r.is_last ≡ false → 0 < length text → EndsLine text

-- how many bytes are left; at the front there is a part, even without a byte
abbrev pub at_front : Progress → ℕ
at_front Front = 1
at_front progress = 0

abbrev pub left_of : Reading → ℕ
left_of r = length r.lexer.text - r.lexer.at + at_front r.progress

-- ---- what is read

-- The tokens of a script that is left at a place.
abbrev pub tokens_from : Place → List ℕ → List Token
tokens_from place left = tokens_left (record { text = left; at = 0; place = place })

-- What is read of a script is a part, parsed by the rules, with these lexical errors; for it these steps are sent, and then the
-- root is left. The script's other tokens are those of what is left of it, at a place.
pub record HasReadPart (vocabulary : Keywords) (rules : RuleGrammar) (read left : List ℕ) (place : Place) (errors : List LexicalError) (done : List OwnedStep) : Type 0 where
  pub part : Part
  pub by : Bor RuleGrammar
  pub same : AreSame by.now rules
  pub parsed : IsParsedPart by (keyword_of vocabulary) (contextual_keyword_of vocabulary) part
  pub text : part.text ≡ read
  pub accepted : AreAcceptedTokens part.text part.tokens
  pub tokens : script_tokens (read ++ left) ≡ part.tokens ++ tokens_from place left
  pub ends : 0 < length left → EndsWithStatement (keyword_of vocabulary) (contextual_keyword_of vocabulary) part
  pub errors_are : (table_by (keyword_of vocabulary) part).errors ≡ errors
  pub sent_is : sent_list (table_by (keyword_of vocabulary) part) (steps_of part) ≡ done ++ sent.Exit ∷ []

-- at the front nothing is, and the root is entered
pub record HasReadNothing (read : List ℕ) (place : Place) (errors : List LexicalError) (done : List OwnedStep) : Type 0 where
  pub front : place ≡ place_of script.Front
  pub nothing : read ≡ []
  pub none : errors ≡ []
  pub entered : done ≡ sent.Enter SOURCE_FILE ∷ []

abbrev pub ReadSoFar : Progress → Keywords → RuleGrammar → List ℕ → List ℕ → Place → List LexicalError → List OwnedStep → Type 0
ReadSoFar Front vocabulary rules read left place errors done = HasReadNothing read place errors done
ReadSoFar Inside vocabulary rules read left place errors done = HasReadPart vocabulary rules read left place errors done

-- what is left of the text
abbrev pub text_left : Reading → List ℕ
text_left r = drop r.lexer.at r.lexer.text

-- What is read of a script, with that of earlier texts, where this rest stands after the text.
abbrev pub HasRead : Keywords → RuleGrammar → Reading → List ℕ → List ℕ → List LexicalError → List OwnedStep → Type 0
HasRead vocabulary rules r rest read errors done = KnowsKeywords vocabulary × ReadSoFar r.progress vocabulary rules read (text_left r ++ rest) r.lexer.place errors done

-- ---- the next part

-- each error of a list of steps stands before this byte
abbrev pub ErrorsBelow : ℕ → List OwnedStep → Type 0
ErrorsBelow n [] = Unit {0}
ErrorsBelow n (sent.Error text pos ∷ steps) = (pos < n) × ErrorsBelow n steps
ErrorsBelow n (sent.Token kind text ∷ steps) = ErrorsBelow n steps
ErrorsBelow n (sent.Enter kind ∷ steps) = ErrorsBelow n steps
ErrorsBelow n (sent.Exit ∷ steps) = ErrorsBelow n steps

-- What is told of a text before this byte: errors that stand before it, and steps with all bytes of the text up to it.
pub record AreBefore (at : ℕ) (errors : List LexicalError) (done : List OwnedStep) : Type 0 where
  pub lexical : All (λ error. error.start < at) errors
  pub sent_errors : ErrorsBelow at done
  pub bytes : bytes_of done ≡ at

-- A part can end here that another text follows: some of the text is left, and the script can go on here in another one.
abbrev pub can_end_part : Lexing → Bool
can_end_part l = nat_lt l.at (length l.text) && is_some (script_place l.place)

-- steps of a table by rules from which the stray strings of its text are hidden
pub record IsParsedBy (rules : RuleGrammar) (vocabulary : Keywords) (text : List ℕ) (tokens : List Token) (table : Table) (steps : List Step) : Type 0 where
  pub by : Bor RuleGrammar
  pub same : AreSame by.now rules
  pub hidden : by.now.table.hidden.tokens.now ≡ stray_strings text tokens
  pub file : AreOfFile (Nodes by) (contextual_keyword_of vocabulary) table steps

-- A part is the next statements, so many of them, whatever texts follow: their tokens, and steps by rules from which stray
-- strings are hidden.
pub record IsOfStatements (vocabulary : Keywords) (rules : RuleGrammar) (old new : Reading) (part : ScriptPart) : Type 0 where
  pub count : ℕ
  pub after : new.lexer ≡ after_statements count old.lexer
  pub some : old.lexer.at < length old.lexer.text → 0 < count
  pub ends : old.is_last ≡ false → can_end_part new.lexer ≡ true
  pub tokens : List Token
  pub cut : (rest : List ℕ) → (old.is_last ≡ true → rest ≡ []) → tokens_left (longer rest old.lexer) ≡ tokens ++ tokens_left (longer rest new.lexer)
  pub table : part.table ≡ table_of (keyword_of vocabulary) (slice_range old.lexer.text old.lexer.at new.lexer.at) tokens
  pub parsed : IsParsedBy rules vocabulary part.table.text tokens part.table part.output.steps

-- A part goes on with what is read of a script of at most 4294967295 bytes, whatever stands after the text, if it isn't the last:
-- what is sent in its root, and its lexical errors, whose places count from its start.
pub record ReadsPart (vocabulary : Keywords) (rules : RuleGrammar) (old new : Reading) (part : ScriptPart) : Type 0 where
  pub same : (new.lexer.text ≡ old.lexer.text) × ((new.begun ≡ old.begun) × (new.is_last ≡ old.is_last))
  pub goes_on : left_of new < left_of old
  pub inside : new.progress ≡ Inside
  pub place : old.is_last ≡ false → script_place new.lexer.place ≢ Some script.Front
  pub start : part.start ≡ old.lexer.at
  pub end : new.lexer.at ≡ part.start + length part.table.text
  pub text : text_left old ≡ part.table.text ++ text_left new
  pub statements : IsOfStatements vocabulary rules old new part
  pub fits : Fits part.table part.output.steps
  pub whole : texts_of (sent_list part.table part.output.steps) ≡ chars part.table.text
  pub short : part.start + length part.table.text ≤ 4294967295
  pub few : (length part.output.steps ≤ 4294967295) × (errors_in part.output.steps ≤ 2147483648)
  pub inner : List OwnedStep
  pub sent_is : sent_list part.table part.output.steps ≡ sent.Enter SOURCE_FILE ∷ inner ++ sent.Exit ∷ []
  pub before : (rest read : List ℕ) (errors : List LexicalError) (done : List OwnedStep) → HasRead vocabulary rules old rest read errors done → AreBefore (length read) errors done
  pub reads : (rest read : List ℕ) (errors : List LexicalError) (done : List OwnedStep) → (old.is_last ≡ true → rest ≡ []) → HasRead vocabulary rules old rest read errors done
      → length read + length part.table.text ≤ 4294967295
      → HasRead vocabulary rules new rest (read ++ part.table.text) (errors ++ map (shifted (length read)) part.table.errors) (done ++ map (moved_by (length read)) inner)

-- ---- no other part

-- no part can end, after however many statements
abbrev pub NoneEnds : Lexing → Type 0
NoneEnds l = (count : ℕ) → 0 < count → can_end_part (after_statements count l) ≡ false

-- there is no other part: all of the last text is read, or no part can end in what is left of another text
abbrev pub NoneLeft : Bool → Lexing → Type 0
NoneLeft true l = length l.text ≤ l.at
NoneLeft false l = NoneEnds l

-- Nothing changes, since there is no other part. At the front of a script there is one, even without a byte.
pub record IsOver (old new : Reading) : Type 0 where
  pub same : new ≡ old
  pub none : NoneLeft old.is_last old.lexer
  pub inside : old.is_last ≡ true → old.progress ≡ Inside

-- ---- all of a script

abbrev pub script_table : Keywords → List ℕ → Table
script_table vocabulary text = table_of (keyword_of vocabulary) text (script_tokens text)

-- The parse of a script by rules from which its stray strings are hidden: what is sent for it, with all of its text, and its
-- lexical errors.
pub record IsScriptParse (vocabulary : Keywords) (text : List ℕ) (errors : List LexicalError) (sent : List OwnedStep) : Type 0 where
  pub steps : List Step
  pub fits : Fits (script_table vocabulary text) steps
  pub by_rules : AreByRules (stray_strings text (script_tokens text)) (contextual_keyword_of vocabulary) (script_table vocabulary text) steps
  pub whole : texts_of sent ≡ chars text
  pub errors_are : (script_table vocabulary text).errors ≡ errors
  pub sent_is : sent_list (script_table vocabulary text) steps ≡ sent

-- The parse of some statements of a text is refused, which stand between others.
pub record IsRefusedPart (vocabulary : Keywords) (place : ScriptPlace) (text : List ℕ) (reason : ParseError) : Type 0 where
  pub before : List Token
  pub tokens : List Token
  pub after : List Token
  pub are : tokens_at place text ≡ before ++ (tokens ++ after)
  pub refused : let from = sum_by (λ (t : Token). t.len) before in
      IsRefusedByRules (contextual_keyword_of vocabulary) (table_of (keyword_of vocabulary) (slice_range text from (from + sum_by (λ (t : Token). t.len) tokens)) tokens) reason
