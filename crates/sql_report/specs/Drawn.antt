-- What is drawn of a parse.
use Rattle.std.specs.Prelude.{ℕ, List, []}
use Rattle.squawk_kinds.specs.KindNames.{Names}
use Rattle.squawk_table.specs.declared.shortcuts.str_step.OwnedStep.{OwnedStep}
use Rattle.squawk_tree.specs.TreeText.{tree_text}
use Rattle.sql_report.specs.JsonLines.{json_lines}
use Rattle.sql_report.specs.declared.one_walk.Asked.{Asked}
use Rattle.sql_report.specs.declared.one_walk.Asked.TheVariants.{Nothing, Tree, Json}

-- the text that is asked for, of steps that are sent
abbrev pub drawn : Asked → Names → List OwnedStep → List ℕ
drawn Nothing names sent = []
drawn Tree names sent = tree_text names sent
drawn Json names sent = json_lines names sent
