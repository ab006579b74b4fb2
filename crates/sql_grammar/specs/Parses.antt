-- What the parse of a table leaves, and why it is refused.
use Rattle.std.specs.Prelude.{◌≡◌, ◌^◌, ◌≤◌, Bool, List, length}
use Rattle.std.specs.Borrow.{Bor}
use Rattle.squawk_kinds.specs.Keywords.{Keywords}
use Rattle.squawk_output.specs.Draft.{Draft, plain}
use Rattle.squawk_output.specs.Steps.{Step}
use Rattle.squawk_table.specs.ParserInput.{input_of}
use Rattle.squawk_table.specs.RawTable.{Table}
use Rattle.squawk_parser.specs.Parse.{IsRefused}
use Rattle.squawk_parser.specs.State.{fresh}
use Rattle.squawk_parser.specs.Words.{Words}
use Rattle.squawk_parser.specs.declared.parser.parse_error.ParseError.{ParseError}
use Rattle.squawk_parser.specs.declared.parser.parse_error.ParseError.TheVariants.{TooManyErrors, TooManyEvents}
use Rattle.rule_grammar.specs.declared.rules.RuleGrammar.{RuleGrammar}
use Rattle.sql_grammar.specs.Files.{IsFile, Runs}
use Rattle.sql_grammar.specs.declared.Detail.{Detail}
use Rattle.sql_grammar.specs.declared.Detail.TheVariants.{Tokens, Nodes}

-- the steps of a file of SQL: one node over all tokens of a table, and in it the nodes of its statements
pub record AreOfFile (detail : Detail) (contextual : Keywords) (table : Table) (steps : List Step) : Type 0 where
  pub draft : Draft
  pub file : IsFile detail (input_of contextual table) draft
  pub is : steps ≡ plain draft.items

-- A parse of the table is refused. Without rules the parser has recorded at most three events for each token, and two for
-- the file, so that only a long text reaches a limit.
pub record IsRefusedParse (detail : Detail) (contextual : Keywords) (table : Table) (reason : ParseError) : Type 0 where
  pub words : Words
  pub refused : IsRefused (λ begun left. Runs detail 3 2 begun left) (fresh (input_of contextual table) words 4294967295 2147483648) reason
  pub events : detail ≡ Tokens → reason ≡ TooManyEvents → 2 ^ 30 ≤ length table.text
  pub errors : detail ≡ Tokens → reason ≡ TooManyErrors → 2 ^ 29 ≤ length table.text

-- ---- by some rules

-- by rules from which these tokens are hidden
abbrev pub AreByRules : List Bool → Keywords → Table → List Step → Type 0
AreByRules hidden contextual table steps =
    (rules : Bor RuleGrammar) × (rules.now.table.hidden.tokens.now ≡ hidden) × AreOfFile (Nodes rules) contextual table steps

abbrev pub IsRefusedByRules : Keywords → Table → ParseError → Type 0
IsRefusedByRules contextual table reason = (rules : Bor RuleGrammar) × IsRefusedParse (Nodes rules) contextual table reason
