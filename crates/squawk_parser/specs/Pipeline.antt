-- The calls from a text to a sink.
use Rattle.std.specs.Prelude.{◌≡◌, ◌↔◌, ◌≤◌, ◌*◌, ℕ, IsTrue, List, ◌++◌, length}
use Rattle.std.specs.Str.{chars}
use Rattle.squawk_kinds.specs.Keywords.{Keywords}
use Rattle.squawk_tokens.specs.AcceptedTokens.{AreAcceptedTokens, RefusesTokens}
use Rattle.squawk_tokens.specs.declared.token.Token.{Token}
use Rattle.squawk_output.specs.Draft.{Draft}
use Rattle.squawk_output.specs.OneRoot.{StandsInOneRoot}
use Rattle.squawk_output.specs.Steps.{Walk, eaten, errors_in, without_errors}
use Rattle.squawk_table.specs.RawTable.{Table as RawTable, table_of}
use Rattle.squawk_table.specs.ParserInput.{Entry, input_of}
use Rattle.squawk_table.specs.Sent.{ErrorsArePlaced, InnerNodesAreTrimmed, IsBeginning, StopsWithin, marked_list, sent_list, texts_of}
use Rattle.squawk_table.specs.Shape.{no_keywords}
use Rattle.squawk_table.specs.declared.shortcuts.str_step.OwnedStep.{OwnedStep}
use Rattle.squawk_parser.specs.Parse.{IsParse, IsRefused}
use Rattle.squawk_parser.specs.State.{State, fresh}
use Rattle.squawk_parser.specs.Words.{Words}
use Rattle.squawk_parser.specs.declared.pipeline.Sent.{Sent}
use Rattle.squawk_parser.specs.declared.pipeline.errors.ParseIntoError.{ParseIntoError}
use Rattle.squawk_parser.specs.declared.pipeline.errors.ParseIntoError.TheVariants.{Table, Input, Parse, NoRoot, Sink}
use Rattle.squawk_parser.specs.declared.pipeline.errors.ParseWholeError.{ParseWholeError}
use Rattle.squawk_parser.specs.declared.pipeline.errors.ParseWholeError.TheVariants as whole

-- ---- what is given

-- a text with its raw tokens, and a vocabulary's keywords
pub record Given : Type 0 where
  pub keyword : Keywords
  pub contextual : Keywords
  pub text : List ℕ
  pub tokens : List Token

abbrev pub given : Keywords → Keywords → List ℕ → List Token → Given
given keyword contextual text tokens = record { keyword = keyword; contextual = contextual; text = text; tokens = tokens }

-- the table of its raw tokens
abbrev pub table_for : Given → RawTable
table_for g = table_of g.keyword g.text g.tokens

-- the input of its parse
abbrev pub input_for : Given → List Entry
input_for g = input_of g.contextual (table_for g)

-- ---- the parse

-- The raw tokens are accepted, and the grammar's run over their input doesn't fail. The output is the plain list of a draft without
-- open markers that the grammar leaves.
pub record IsParsed (g : Given) (leaves : List Entry → Draft → Type 0) (output : Walk) : Type 0 where
  pub accepted : AreAcceptedTokens g.text g.tokens
  pub parse : IsParse (leaves (input_for g)) (input_for g) output
  pub events_within : output.recorded ≤ 4294967295
  pub errors_within : errors_in output.steps ≤ 2147483648

-- ---- what is sent

-- A sink takes every step: if it stood after a list, it stands after that list and the sent list, in which trivia and errors are
-- placed as defined. The texts of the tokens there are a prefix of the text, and all of it if and only if `all` is true; so are the
-- tokens that are eaten. The position of each error is the number of bytes sent before it, and no node but the root begins or ends
-- with trivia.
pub record IsSent (table : RawTable) (output : Walk) (before after : List OwnedStep → Type 0) (sent : Sent) : Type 0 where
  pub stands : (l : List OwnedStep) → before l → after (l ++ sent_list table output.steps)
  pub beginning : IsBeginning (texts_of (sent_list table output.steps)) (chars table.text)
  pub whole : IsTrue sent.all ↔ (texts_of (sent_list table output.steps) ≡ chars table.text)
  pub eaten_all : IsTrue sent.all ↔ (eaten output.steps ≡ length (input_of no_keywords table))
  pub placed : ErrorsArePlaced (sent_list table output.steps)
  pub trimmed : InnerNodesAreTrimmed (marked_list table output.steps)
  -- the counts that are returned
  pub recorded : sent.recorded ≡ output.recorded
  pub turns : sent.turns ≡ output.turns

-- ---- all of it

-- For a text, raw tokens that the check accepts, and a grammar whose run over their input doesn't fail and leaves one root, errors
-- aside: the pass takes at most four turns for each recorded event and gives the list of plain editing, and the sink receives it.
pub record IsParsedInto (g : Given) (leaves : List Entry → Draft → Type 0) (before after : List OwnedStep → Type 0) (sent : Sent) : Type 0 where
  pub output : Walk
  pub parsed : IsParsed g leaves output
  pub root : StandsInOneRoot (without_errors output.steps)
  pub sending : IsSent (table_for g) output before after sent
  pub few : sent.turns ≤ 4 * sent.recorded

-- ---- refusals

-- What is parsed isn't in one root.
pub record HasNoRoot (g : Given) (leaves : List Entry → Draft → Type 0) : Type 0 where
  pub output : Walk
  pub parsed : IsParsed g leaves output
  pub no_root : ¬ (StandsInOneRoot (without_errors output.steps))

-- What is parsed is in one root, and the sink refuses a step of it: if it stood after a list, it stands after that list and what it
-- took of the sent list.
pub record IsStopped {R : Type 0} (g : Given) (leaves : List Entry → Draft → Type 0) (before after : List OwnedStep → Type 0)
    (refuses : List OwnedStep → OwnedStep → R → Type 0) (answer : R) : Type 0 where
  pub output : Walk
  pub parsed : IsParsed g leaves output
  pub root : StandsInOneRoot (without_errors output.steps)
  pub stops : (l : List OwnedStep) → before l → StopsWithin after refuses l (sent_list (table_for g) output.steps) answer

-- Why nothing was parsed: what the contract of the stage that failed says.
abbrev pub IsNotParsed : {R : Type 0} (g : Given) (runs : State → State → Type 0) (words : Words) → ParseWholeError R → Type 0
IsNotParsed g runs words (whole.Table reason) = RefusesTokens g.text g.tokens reason
IsNotParsed g runs words (whole.Input reason) = AreAcceptedTokens g.text g.tokens
IsNotParsed g runs words (whole.Parse reason) = AreAcceptedTokens g.text g.tokens × IsRefused runs (fresh (input_for g) words 4294967295 2147483648) reason
IsNotParsed g runs words (whole.Sink answer) = ⊥

-- Why not all was sent: what the contract of the stage that failed says. Before the sink's error the sink is unchanged.
abbrev pub IsRefusal : {R : Type 0} (g : Given) (leaves : List Entry → Draft → Type 0) (runs : State → State → Type 0) (words : Words)
    (before after : List OwnedStep → Type 0) (refuses : List OwnedStep → OwnedStep → R → Type 0) (unchanged : Type 0) → ParseIntoError R → Type 0
IsRefusal g leaves runs words before after refuses unchanged (Table reason) = unchanged × RefusesTokens g.text g.tokens reason
IsRefusal g leaves runs words before after refuses unchanged (Input reason) = unchanged × AreAcceptedTokens g.text g.tokens
IsRefusal g leaves runs words before after refuses unchanged (Parse reason) =
    unchanged × AreAcceptedTokens g.text g.tokens × IsRefused runs (fresh (input_for g) words 4294967295 2147483648) reason
IsRefusal g leaves runs words before after refuses unchanged NoRoot = unchanged × HasNoRoot g leaves
IsRefusal g leaves runs words before after refuses unchanged (Sink answer) = IsStopped g leaves before after refuses answer

-- the same error of a call that also requires a root
abbrev pub as_into_error : {R : Type 0} → ParseWholeError R → ParseIntoError R
as_into_error (whole.Table reason) = Table reason
as_into_error (whole.Input reason) = Input reason
as_into_error (whole.Parse reason) = Parse reason
as_into_error (whole.Sink answer) = Sink answer
