-- A text in parts: its parse is made of theirs.
use Rattle.std.specs.Prelude.{◌≡◌, ℕ, ◌+◌, Bool, true, false, List, [], ◌∷◌, ◌++◌, length, sum_by}
use Rattle.std.specs.Borrow.{Bor}
use Rattle.squawk_kinds.specs.Keywords.{Keywords}
use Rattle.squawk_output.specs.Steps.{Step}
use Rattle.squawk_parser.specs.Eaten.{node}
use Rattle.squawk_tokens.specs.declared.token.Token.{Token}
use Rattle.squawk_tokens.specs.declared.token.TokenKind.{TokenKind}
use Rattle.squawk_tokens.specs.declared.token.TokenKind.TheVariants.{PsqlCommand, Semi}
use Rattle.squawk_table.specs.ParserInput.{input_of, kinds_in}
use Rattle.squawk_table.specs.RawTable.{IsTable, Table, table_of}
use Rattle.squawk_table.specs.Shape.{Fits}
use Rattle.squawk_table.specs.declared.shortcuts.str_step.OwnedStep.{OwnedStep}
use Rattle.squawk_table.specs.declared.shortcuts.str_step.OwnedStep.TheVariants as sent
use Rattle.rule_grammar.specs.declared.rules.RuleGrammar.{RuleGrammar}
use Rattle.sql_lexer.specs.Statements.{after, ends_with}
use Rattle.sql_lexer.specs.declared.statements.Statement.{Statement}
use Rattle.sql_lexer.specs.declared.statements.Statement.TheVariants.{Start}
use Rattle.sql_grammar.specs.Kinds.{SOURCE_FILE}
use Rattle.sql_grammar.specs.Parses.{AreOfFile}
use Rattle.sql_grammar.specs.StrayStrings.{stray_strings}
use Rattle.sql_grammar.specs.Words.{word_of}
use Rattle.sql_grammar.specs.declared.Detail.TheVariants.{Nodes}

-- a text, its raw tokens, and the steps in the root of its parse
pub record Part : Type 0 where
  pub text : List ℕ
  pub tokens : List Token
  pub nodes : List Step

abbrev pub table_by : Keywords → Part → Table
table_by keyword part = table_of keyword part.text part.tokens

abbrev pub steps_of : Part → List Step
steps_of part = node SOURCE_FILE part.nodes

-- The tokens are all of the text, and the steps are those of its parse by rules from which its stray strings are hidden.
pub record IsParsedPart (rules : Bor RuleGrammar) (keyword contextual : Keywords) (part : Part) : Type 0 where
  pub whole : sum_by (λ (t : Token). t.len) part.tokens ≡ length part.text
  pub table : IsTable (table_by keyword part)
  pub fits : Fits (table_by keyword part) (steps_of part)
  pub file : AreOfFile (Nodes rules) contextual (table_by keyword part) (steps_of part)
  pub hidden : rules.now.table.hidden.tokens.now ≡ stray_strings part.text part.tokens

-- rules that differ in what is hidden from them
abbrev pub AreSame : RuleGrammar → RuleGrammar → Type 0
AreSame r s = r ≡ record s { table = record s.table { hidden = r.table.hidden } }

-- ---- a part that ends with a statement

-- a semicolon, or a command of psql
abbrev pub is_sign : TokenKind → Bool
is_sign Semi = true
is_sign (PsqlCommand ends_query) = true
is_sign kind = false

-- whether the last of some kinds of tokens ends a statement, where this one is begun before the first
abbrev pub last_ends : Statement → List ℕ → Bool
last_ends statement [] = true
last_ends statement (kind ∷ []) = ends_with statement (word_of kind)
last_ends statement (kind ∷ next ∷ kinds) = last_ends (after statement (word_of kind)) (next ∷ kinds)

pub record EndsWithStatement (keyword contextual : Keywords) (part : Part) : Type 0 where
  pub front : List Token
  pub last : Token
  pub tokens : part.tokens ≡ front ++ last ∷ []
  pub sign : is_sign last.kind ≡ true
  pub ends : last_ends Start (kinds_in (input_of contextual (table_by keyword part))) ≡ true

-- a step in a text that stands after so many bytes
abbrev pub moved_by : ℕ → OwnedStep → OwnedStep
moved_by n (sent.Token kind text) = sent.Token kind text
moved_by n (sent.Enter kind) = sent.Enter kind
moved_by n sent.Exit = sent.Exit
moved_by n (sent.Error text pos) = sent.Error text (n + pos)
