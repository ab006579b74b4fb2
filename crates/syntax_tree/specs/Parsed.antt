-- One call from a text to its tree.
use Rattle.std.specs.Prelude.{◌≡◌, ◌↔◌, ◌<◌, List, length}
use Rattle.squawk_tokens.specs.AcceptedTokens.{AreAcceptedTokens, RefusesTokens}
use Rattle.squawk_output.specs.Draft.{Draft}
use Rattle.squawk_output.specs.OneRoot.{StandsInOneRoot}
use Rattle.squawk_output.specs.Steps.{Walk, eaten, without_errors}
use Rattle.squawk_table.specs.ParserInput.{Entry}
use Rattle.squawk_table.specs.Sent.{ErrorsArePlaced, InnerNodesAreTrimmed, IsBeginning, marked_list, sent_list}
use Rattle.squawk_table.specs.declared.shortcuts.str_step.OwnedStep.{OwnedStep}
use Rattle.squawk_parser.specs.Parse.{IsRefused}
use Rattle.squawk_parser.specs.Pipeline.{Given, HasNoRoot, IsParsed, input_for, table_for}
use Rattle.squawk_parser.specs.State.{State, fresh}
use Rattle.squawk_parser.specs.Words.{Words}
use Rattle.squawk_tree.specs.Forest.{Forest, forest_steps}
use Rattle.syntax_tree.specs.Layout.{Laid, IsTree}
use Rattle.syntax_tree.specs.Refusals.{elements_in}
use Rattle.syntax_tree.specs.declared.parse.errors.ParseTreeError.{ParseTreeError}
use Rattle.syntax_tree.specs.declared.parse.errors.ParseTreeError.TheVariants.{Table, Input, Parse, NoRoot, TooLarge, OutOfMemory}

-- What a grammar leaves over the input of a text's raw tokens is parsed, and stands in one root. A tree lies there whose walk is the
-- sent list of that output, and the lexical errors are those of the table. Its text is a beginning of the text, and all of it exactly where all tokens of the input are eaten. The
-- position of each error is the number of bytes before it, and no node but the root begins or ends with trivia.
pub record IsParsedTree (g : Given) (leaves : List Entry → Draft → Type 0) (laid : Laid) : Type 0 where
  pub output : Walk
  pub parsed : IsParsed g leaves output
  pub root : StandsInOneRoot (without_errors output.steps)
  pub tree : Forest
  pub is : IsTree laid tree
  pub steps : forest_steps tree ≡ sent_list (table_for g) output.steps
  pub lexical : laid.lexical ≡ (table_for g).errors
  pub beginning : IsBeginning laid.text g.text
  pub whole : (laid.text ≡ g.text) ↔ (eaten output.steps ≡ length (input_for g))
  pub placed : ErrorsArePlaced (sent_list (table_for g) output.steps)
  pub trimmed : InnerNodesAreTrimmed (marked_list (table_for g) output.steps)

-- ---- refusals

-- What is parsed stands in one root, and its sent list is one that a test passes.
pub record IsParsedTo (g : Given) (leaves : List Entry → Draft → Type 0) (test : List OwnedStep → Type 0) : Type 0 where
  pub output : Walk
  pub parsed : IsParsed g leaves output
  pub root : StandsInOneRoot (without_errors output.steps)
  pub passes : test (sent_list (table_for g) output.steps)

-- Why there is no tree: what the contract of the stage says that refused. The tree itself is refused where it would have more than
-- 4294967295 nodes and tokens, or by want of memory.
abbrev pub IsTreeRefusal : (g : Given) (leaves : List Entry → Draft → Type 0) (runs : State → State → Type 0) (words : Words) → ParseTreeError → Type 0
IsTreeRefusal g leaves runs words (Table reason) = RefusesTokens g.text g.tokens reason
IsTreeRefusal g leaves runs words (Input reason) = AreAcceptedTokens g.text g.tokens
IsTreeRefusal g leaves runs words (Parse reason) =
    AreAcceptedTokens g.text g.tokens × IsRefused runs (fresh (input_for g) words 4294967295 2147483648) reason
IsTreeRefusal g leaves runs words NoRoot = HasNoRoot g leaves
IsTreeRefusal g leaves runs words TooLarge = IsParsedTo g leaves (λ sent. 4294967295 < elements_in sent)
IsTreeRefusal g leaves runs words OutOfMemory = IsParsedTo g leaves (λ sent. Unit {0})
