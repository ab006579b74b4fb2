-- What is printed of a text.
use Rattle.std.specs.Prelude.{◌≡◌, ℕ, List, ◌++◌, map}
use Rattle.squawk_parser.specs.Pipeline.{Given}
use Rattle.squawk_tree.specs.Forest.{Forest}
use Rattle.sql_report.specs.ErrorLines.{error_texts}
use Rattle.sql_report.specs.Findings.{told}
use Rattle.sql_report.specs.declared.finding_list.Finding.{Finding}
use Rattle.sql_syntax.specs.SqlTrees.{IsSqlTree}
use Rattle.sql_syntax.specs.TreeFindings.{TellsErrors}
use Rattle.syntax_tree.specs.Layout.{Laid}
use Rattle.sql_lint.specs.Rules.{findings_in}

-- findings are the errors of a tree by their places, and after them what the rules find
pub record AreFound (laid : Laid) (tree : Forest) (findings : List Finding) : Type 0 where
  pub errors : List Finding
  pub tell : TellsErrors laid tree errors
  pub found : map told findings ≡ map told errors ++ findings_in tree

-- lines show the findings in a tree of the text, as errors of a text that is called by this name
pub record AreLinted (g : Given) (name : List ℕ) (lines : List ℕ) : Type 0 where
  pub laid : Laid
  pub is_tree : IsSqlTree g laid
  pub findings : List Finding
  pub found : AreFound laid is_tree.parsed.tree findings
  pub lines_are : lines ≡ error_texts name g.text findings
