-- The answer to the bytes of a document.
use Rattle.std.specs.Prelude.{◌≡◌, ◌≢◌, ℕ, ◌<◌, ◌==◌, Bool, List, ◌++◌, length, map, Option, Some, None, Result, Ok, Err}
use Rattle.squawk_document.specs.DocumentGrammars.{GrammarContent, by_calls, by_tiny}
use Rattle.squawk_document.specs.Documents.{Content, document_in}
use Rattle.squawk_document.specs.Values.{◌>>=◌, json_value}
use Rattle.squawk_document.specs.declared.document_error.DocumentError.{DocumentError}
use Rattle.squawk_tokens.specs.AcceptedTokens.{AreAcceptedTokens, RefusesTokens}
use Rattle.squawk_table.specs.ParserInput.{Entry, input_of}
use Rattle.squawk_table.specs.RawTable.{Table, table_of}
use Rattle.squawk_table.specs.Sent.{sent_list}
use Rattle.squawk_table.specs.Shape.{Fits, no_keywords}
use Rattle.squawk_output.specs.Steps.{Step, eaten, is_error}
use Rattle.squawk_output.specs.Draft.{plain}
use Rattle.squawk_parser.specs.Words.{Words}
use Rattle.squawk_parser.specs.declared.parser.parse_error.ParseError.{ParseError}
use Rattle.squawk_parser.specs.declared.parser.parse_error.ParseError.TheVariants as parse
use Rattle.squawk_script.specs.Accepted as script
use Rattle.squawk_script.specs.Events.{events_of, refusal}
use Rattle.squawk_script.specs.Meaning.{run_of}
use Rattle.squawk_script.specs.declared.script_error.ScriptError.{ScriptError}
use Rattle.tiny_grammar.specs.Expressions.{tiny_in_order, tiny_steps}
use Rattle.squawk_answer.specs.Fault.{fault_status}
use Rattle.squawk_answer.specs.Lines.{Texts, last_line, lex_lines, step_lines}
use Rattle.squawk_answer.specs.declared.fault.Fault.{Fault}
use Rattle.squawk_answer.specs.declared.fault.Fault.TheVariants as fault

-- ---- a document

-- the document that these bytes are
abbrev pub document_of : List ℕ → Result Content DocumentError
document_of input = json_value input >>= document_in

-- the table of its raw tokens
abbrev pub table_for : Content → Table
table_for d = table_of d.vocabulary.keywords.kind_of d.text d.tokens

-- the input of its parse
abbrev pub parser_input : Content → List Entry
parser_input d = input_of d.vocabulary.contextual.kind_of (table_for d)

-- ---- a parse by a grammar

-- its calls are accepted, and the small grammar has none
abbrev pub HasCalls : GrammarContent → Type 0
HasCalls (by_calls entry cs) = script.IsAccepted cs
HasCalls by_tiny = Unit {0}

-- its calls are refused
abbrev pub RefusesCalls : GrammarContent → ScriptError → Type 0
RefusesCalls (by_calls entry cs) e = script.Refuses cs e
RefusesCalls by_tiny e = ⊥

-- the steps that its run leaves over an input
abbrev pub steps_by : GrammarContent → Words → List Entry → List Step
steps_by (by_calls entry cs) words input = plain (run_of words input cs).draft.items
steps_by by_tiny words input = tiny_steps input

-- the events that its run records, in their order, each as whether it is an error
abbrev pub events_by : GrammarContent → Words → List Entry → List Bool
events_by (by_calls entry cs) words input = events_of words input cs
events_by by_tiny words input = map is_error (tiny_in_order input)

-- why the run is refused, if it is: it may record 4294967295 events, and 2147483648 errors among them
abbrev pub refusal_by : GrammarContent → Words → List Entry → Option ParseError
refusal_by grammar words input = refusal 4294967295 2147483648 (events_by grammar words input)

-- its calls are accepted, and its run is not refused
abbrev pub HasSteps : GrammarContent → Words → List Entry → Type 0
HasSteps grammar words input = HasCalls grammar × (refusal_by grammar words input ≡ None)

-- What a parse by a grammar over the input of a table returns: its steps, or the first fault. Of a run that an allocation stopped
-- nothing else is said, and the other faults aren't those of a parse.
abbrev pub ParseReturns : GrammarContent → Words → List Entry → Table → Result (List Step) Fault → Type 0
ParseReturns g words input t (Ok steps) = HasSteps g words input × Fits t steps × (steps ≡ steps_by g words input)
ParseReturns g words input t (Err (fault.Script reason)) = RefusesCalls g reason
ParseReturns g words input t (Err (fault.Parse reason)) = HasCalls g × (reason ≢ parse.OutOfMemory → refusal_by g words input ≡ Some reason)
ParseReturns g words input t (Err fault.DoesNotFit) = HasSteps g words input × ¬ (Fits t (steps_by g words input))
ParseReturns g words input t (Err fault.Memory) = Unit {0}
ParseReturns g words input t (Err other) = ⊥

-- of a document
abbrev pub ParseOf : Content → Result (List Step) Fault → Type 0
ParseOf d answer = ParseReturns d.grammar d.words (parser_input d) (table_for d) answer

-- ---- a document's answer

-- the steps that its grammar leaves
abbrev pub steps : Content → List Step
steps d = steps_by d.grammar d.words (parser_input d)

-- whether the steps have all raw tokens that aren't trivia
abbrev pub eats_all : Content → Bool
eats_all d = eaten (steps d) == length (input_of no_keywords (table_for d))

-- the lines of its lexical errors, and those of what is sent for the steps, with the last one
abbrev pub lines : Content → Texts
lines d = record { errors = lex_lines (table_for d).errors; steps = step_lines (sent_list (table_for d) (steps d)) ++ last_line (eats_all d) }

-- its raw tokens are accepted, and this is what its parse returns
abbrev pub IsParsed : Content → Result (List Step) Fault → Type 0
IsParsed d answer = AreAcceptedTokens d.text d.tokens × ParseOf d answer

-- What is returned for a document: its lines, or the first fault. Nothing is said of reading and writing.
abbrev pub Returns : Content → Result Texts Fault → Type 0
Returns d (Ok texts) = IsParsed d (Ok (steps d)) × (texts ≡ lines d)
Returns d (Err (fault.Document reason)) = ⊥
Returns d (Err (fault.Table reason)) = RefusesTokens d.text d.tokens reason
Returns d (Err fault.Memory) = Unit {0}
Returns d (Err fault.Io) = Unit {0}
Returns d (Err other) = IsParsed d (Err other)

-- what is returned for the read of a document
abbrev pub ReadReturns : Result Content DocumentError → Result Texts Fault → Type 0
ReadReturns (Ok d) answer = Returns d answer
ReadReturns (Err reason) answer = answer ≡ Err (fault.Document reason)

-- an answer that the bytes alone determine: no allocation, read or write failed, for which the statuses 7 and 8 are
abbrev pub IsDetermined : Result Texts Fault → Type 0
IsDetermined (Ok texts) = Unit {0}
IsDetermined (Err reason) = fault_status reason < 7

-- What is returned for the bytes that were read: the lines, or the first fault.
abbrev pub IsAnswer : List ℕ → Result Texts Fault → Type 0
IsAnswer input answer = IsDetermined answer → ReadReturns (document_of input) answer

-- Bytes have one answer: another one that they determine is this one.
pub record IsTheAnswer (input : List ℕ) (answer : Result Texts Fault) : Type 0 where
  pub is : IsAnswer input answer
  pub only : IsDetermined answer → (other : Result Texts Fault) → IsDetermined other → IsAnswer input other → other ≡ answer
