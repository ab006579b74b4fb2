-- The tree of a text of SQL.
use Rattle.std.specs.Prelude.{◌≡◌, ℕ, List}
use Rattle.std.specs.Borrow.{Bor}
use Rattle.squawk_kinds.specs.Keywords.{Keywords}
use Rattle.squawk_parser.specs.Pipeline.{Given, given}
use Rattle.rule_grammar.specs.declared.rules.RuleGrammar.{RuleGrammar}
use Rattle.sql_grammar.specs.Files.{IsFile}
use Rattle.sql_grammar.specs.StrayStrings.{stray_strings}
use Rattle.sql_grammar.specs.declared.Detail.TheVariants.{Nodes}
use Rattle.sql_lexer.specs.Scripts.{script_tokens}
use Rattle.syntax_tree.specs.Layout.{Laid}
use Rattle.syntax_tree.specs.Parsed.{IsParsedTree}

-- a text, with the raw tokens of a script
abbrev pub sql_given : Keywords → Keywords → List ℕ → Given
sql_given keyword contextual text = given keyword contextual text (script_tokens text)

-- a tree of a file, by rules from which stray strings are hidden, that has all of what is given
pub record IsSqlTree (g : Given) (laid : Laid) : Type 0 where
  pub rules : Bor RuleGrammar
  pub hidden : rules.now.table.hidden.tokens.now ≡ stray_strings g.text g.tokens
  pub parsed : IsParsedTree g (IsFile (Nodes rules)) laid
  pub whole : laid.text ≡ g.text
