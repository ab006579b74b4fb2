-- Errors of programs on SQL.
use Rattle.std.specs.Prelude.{ℕ, Option, Some, None, List, ◌++◌, codes, option_map}
use Rattle.std.specs.Borrow.{Bor}
use Rattle.squawk_parser.specs.Pipeline.{Given}
use Rattle.squawk_parser.specs.Words.{Words}
use Rattle.rule_grammar.specs.declared.rules.RuleGrammar.{RuleGrammar}
use Rattle.sql_grammar.specs.Files.{IsFile, Runs}
use Rattle.sql_grammar.specs.declared.Detail.TheVariants.{Nodes}
use Rattle.sql_lexer.specs.ErrorLines.{tokenize_error_line}
use Rattle.sql_lexer.specs.Tokens.{RefusesText}
use Rattle.syntax_tree.specs.ErrorLines.{parse_tree_error_line}
use Rattle.syntax_tree.specs.Layout.{Laid}
use Rattle.syntax_tree.specs.Parsed.{IsTreeRefusal}
use Rattle.sql_syntax.specs.SqlTrees.{IsSqlTree}
use Rattle.syntax_tree.specs.declared.parse.errors.ParseTreeError.{ParseTreeError}
use Rattle.sql_syntax.specs.declared.error.FileError.{FileError}
use Rattle.sql_syntax.specs.declared.error.SqlError.{SqlError}
use Rattle.sql_syntax.specs.declared.error.SqlError.TheVariants.{Io, Tokens, Tree, Memory}

-- A tree of what is given, by some rules, is refused.
pub record RefusesTree (g : Given) (reason : ParseTreeError) : Type 0 where
  pub rules : Bor RuleGrammar
  pub words : Words
  pub refused : IsTreeRefusal g (IsFile (Nodes rules)) (Runs (Nodes rules) 3 2) words reason

-- The stage that failed and its reason, which that stage's contract states. If memory runs out after the parse, there
-- is a tree.
abbrev pub RefusesSql : Given → SqlError → Type 0
RefusesSql g (Io reason) = ⊥
RefusesSql g (Tokens reason) = RefusesText g.text reason
RefusesSql g (Tree reason) = RefusesTree g reason
RefusesSql g (Memory reason) = (laid : Laid) × IsSqlTree g laid

-- the text of an error is that of its stage; no clause says the text of a system's error
abbrev pub sql_error_line : SqlError → Option (List ℕ)
sql_error_line (Io reason) = None
sql_error_line (Tokens reason) = Some (tokenize_error_line reason)
sql_error_line (Tree reason) = Some (parse_tree_error_line reason)
sql_error_line (Memory reason) = Some (codes "out of memory")

-- before it stands the name of the file
abbrev pub file_error_line : FileError → Option (List ℕ)
file_error_line failed = option_map (λ line. failed.name.now ++ codes ": " ++ line) (sql_error_line failed.error)
