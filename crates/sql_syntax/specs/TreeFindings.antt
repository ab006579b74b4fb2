-- The errors of a tree as findings.
use Rattle.std.specs.Prelude.{◌≡◌, List, map}
use Rattle.squawk_tree.specs.Forest.{Forest}
use Rattle.sql_report.specs.Findings.{Told, told}
use Rattle.sql_report.specs.declared.finding_list.Finding.{Finding}
use Rattle.syntax_tree.specs.Layout.{Laid}
use Rattle.syntax_tree.specs.TextErrors.{AreByPlace, hint_of, message_of, place_of}
use Rattle.syntax_tree.specs.declared.text_errors.TextError.{TextError}

-- what an error tells
abbrev pub told_error : TextError → Told
told_error error = record { at = place_of error; message = message_of error; hint = hint_of error }

-- findings tell the errors of a tree by their places
pub record TellsErrors (laid : Laid) (tree : Forest) (findings : List Finding) : Type 0 where
  pub errors : List TextError
  pub by_place : AreByPlace laid tree errors
  pub found : map told findings ≡ map told_error errors
