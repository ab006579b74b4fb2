-- What a parse by the grammar of a document returns, and what is returned for the document then.
use Rattle.std.proofs.Common.{◌≡◌, ◌≢◌, ◌∙◌, ℕ, ◌≤◌, Bool, List, ◌++◌, Some, None, Ok, Err, inl, inr, ap, arith, sym, subst}
use Rattle.std.specs.Prelude.{Result, IsErrAnd, MatchResult, ◌==◌, ◌↔◌, IsTrue, length}
use Rattle.std.proofs.lemmas.Bool.Decides.{Decides-eqb, same_from_decides}
use Rattle.squawk_document.specs.DocumentGrammars.{by_calls}
use Rattle.squawk_document.specs.Documents.{Content}
use Rattle.squawk_tokens.specs.AcceptedTokens.{AreAcceptedTokens}
use Rattle.squawk_table.specs.ParserInput.{Entry, input_of}
use Rattle.squawk_table.specs.RawTable.{Table}
use Rattle.squawk_table.specs.Sent.{sent_list}
use Rattle.squawk_table.specs.Shape.{no_keywords}
use Rattle.squawk_output.specs.Steps.{Step, Walk, eaten, errors_in}
use Rattle.squawk_output.specs.Draft.{plain}
use Rattle.squawk_parser.specs.Parse.{IsParse, IsRefusalOf, IsRefused}
use Rattle.squawk_parser.specs.State.{State}
use Rattle.squawk_parser.specs.Words.{Words}
use Rattle.squawk_parser.specs.declared.parser.grammar.EntryPoint.{EntryPoint}
use Rattle.squawk_parser.specs.declared.parser.parse_error.ParseError.{ParseError}
use Rattle.squawk_parser.specs.declared.parser.parse_error.ParseError.TheVariants as parse
use Rattle.squawk_script.specs.Events.{FailsByLimits, IsRunOf, events_of, refusal}
use Rattle.squawk_script.specs.Meaning.{Meaning, run_of}
use Rattle.squawk_script.specs.declared.call.Call.{Call}
use Rattle.squawk_script.proofs.Laws.{unrefused}
use Rattle.squawk_answer.specs.Answers.{ParseOf, ParseReturns, Returns, lines, refusal_by, steps, steps_by, table_for}
use Rattle.squawk_answer.specs.Lines.{Texts, last_line, lex_lines, step_lines}
use Rattle.squawk_answer.specs.declared.fault.Fault.{Fault}
use Rattle.squawk_answer.specs.declared.fault.Fault.TheVariants as faults

-- ---- a parse

-- a fault that is returned
pub fault-returned : {X : Type 0} (result : Result X Fault) (Q : X → Type 0) (P : Fault → Type 0) (fault : Fault) → IsErrAnd result (λ f. f ≡ fault) → P fault → MatchResult result Q P
fault-returned (Ok x) Q P fault is known = absurd is
fault-returned (Err f) Q P fault is known = subst P (sym is) known

-- ---- a parse by calls

-- what refuses it, if it isn't want of memory
pub limit-returned : (script : Meaning) (begun : State) (reason : ParseError) → IsRefused (FailsByLimits script) begun reason → reason ≢ parse.OutOfMemory
    → refusal begun.max_events begun.max_errors (events_of script.words begun.input script.calls) ≡ Some reason
limit-returned script begun reason refused other = cases refused.refusal
  where
    cases : IsRefusalOf refused.left reason → refusal begun.max_events begun.max_errors (events_of script.words begun.input script.calls) ≡ Some reason
    cases (inl first) = refused.ran reason first other
    cases (inr memory) = absurd (other memory.1)

-- these calls with these words, as a script
abbrev pub script_of : List Call → Words → Meaning
script_of cs words = record { calls = cs; words = words }

module _ (entry : EntryPoint) (cs : List Call) (words : Words) (input : List Entry) (script : Meaning) (parsed : List Entry)
    (same_script : script ≡ script_of cs words) (same_input : parsed ≡ input) where
  -- the events of its run, as the parse sees them
  pub refusal-same : refusal 4294967295 2147483648 (events_of script.words parsed script.calls) ≡ refusal_by (by_calls entry cs) words input
  refusal-same =
      ap (λ s. refusal 4294967295 2147483648 (events_of s.words parsed s.calls)) same_script
      ∙ ap (λ entries. refusal 4294967295 2147483648 (events_of words entries cs)) same_input

  module _ (output : Walk) (is : IsParse (IsRunOf script parsed) parsed output) where
    pub steps-returned : output.steps ≡ steps_by (by_calls entry cs) words input
    steps-returned =
        is.steps
        ∙ (ap (λ d. plain d.items) is.left
        ∙ (ap (λ s. plain (run_of s.words parsed s.calls).draft.items) same_script ∙ ap (λ entries. plain (run_of words entries cs).draft.items) same_input))

    pub none-refused : (output.recorded ≤ 4294967295) × (errors_in output.steps ≤ 2147483648) → refusal_by (by_calls entry cs) words input ≡ None
    none-refused within =
        let events : is.draft.recorded ≤ 4294967295 = omega (arith, is.recorded, within.0) in
        let errors : errors_in (plain is.draft.items) ≤ 2147483648 = subst (λ steps. errors_in steps ≤ 2147483648) is.steps within.1 in
        sym refusal-same ∙ unrefused script parsed is.draft is.left 4294967295 2147483648 (events, errors)

-- ---- a document

-- what is returned for its parse, over its table as it was made and with its words as they are lent
pub parse-returned : (d : Content) (t : Table) (words : Words) (answer : Result (List Step) Fault) → t ≡ table_for d → words ≡ d.words
    → ParseReturns d.grammar words (input_of d.vocabulary.contextual.kind_of t) t answer → ParseOf d answer
parse-returned d t words answer same_table same_words known =
    subst (λ table. ParseReturns d.grammar d.words (input_of d.vocabulary.contextual.kind_of table) table answer) same_table
    (subst (λ words. ParseReturns d.grammar words (input_of d.vocabulary.contextual.kind_of t) t answer) same_words known)

-- a fault of its parse is the document's
pub parse_fault-returned : (d : Content) (fault : Fault) → AreAcceptedTokens d.text d.tokens → ParseOf d (Err fault) → Returns d (Err fault)
parse_fault-returned d (faults.Document reason) accepted known = absurd known
parse_fault-returned d (faults.Table reason) accepted known = absurd known
parse_fault-returned d (faults.Script reason) accepted known = (accepted, known)
parse_fault-returned d (faults.Parse reason) accepted known = (accepted, known)
parse_fault-returned d faults.DoesNotFit accepted known = (accepted, known)
parse_fault-returned d faults.Memory accepted known = tt
parse_fault-returned d faults.Io accepted known = tt

-- two texts
abbrev texts : List ℕ → List ℕ → Texts
texts errors steps = record { errors = errors; steps = steps }

-- the two texts of a table and of the steps that are sent over it
pub texts-returned : (d : Content) (table : Table) (sent : List Step) (all : Bool) (errors steps_text : List ℕ) → table ≡ table_for d → sent ≡ steps d
    → IsTrue all ↔ (eaten sent ≡ length (input_of no_keywords table))
    → errors ≡ lex_lines table.errors → steps_text ≡ step_lines (sent_list table sent) ++ last_line all → texts errors steps_text ≡ lines d
texts-returned d table sent all errors steps_text same_table same_steps is same_errors same_text =
    ap (λ text. texts text steps_text) same_errors
    ∙ (ap (texts (lex_lines table.errors)) same_text
    ∙ (ap (λ b. texts (lex_lines table.errors) (step_lines (sent_list table sent) ++ last_line b)) (same_from_decides all (eaten sent == length (input_of no_keywords table)) is (Decides-eqb (eaten sent) (length (input_of no_keywords table))))
    ∙ (ap (λ t. lines_over t sent) same_table ∙ ap (lines_over (table_for d)) same_steps)))
  where
    lines_over : Table → List Step → Texts
    lines_over t s = texts (lex_lines t.errors) (step_lines (sent_list t s) ++ last_line (eaten s == length (input_of no_keywords t)))
