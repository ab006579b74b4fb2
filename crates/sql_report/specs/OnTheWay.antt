-- Where a walk over steps stands.
use Rattle.std.specs.Prelude.{◌≡◌, ◌≢◌, ℕ, ◌+◌, ◌<◌, ◌^◌, List, [], ◌++◌, map, string_bytes}
use Rattle.squawk_kinds.specs.KindNames.{Names}
use Rattle.squawk_table.specs.Sent.{bytes_of}
use Rattle.squawk_table.specs.declared.shortcuts.str_step.OwnedStep.{OwnedStep}
use Rattle.squawk_table.specs.declared.shortcuts.str_step.OwnedStep.TheVariants as sent
use Rattle.squawk_tree.specs.Drawing.{StandsAfter}
use Rattle.sql_report.specs.JsonLines.{json_lines, written_from}
use Rattle.sql_report.specs.OpenJson.{standing}
use Rattle.sql_report.specs.declared.drawing.Drawing.{Drawing}
use Rattle.sql_report.specs.declared.drawing.Drawing.TheVariants as drawing
use Rattle.sql_report.specs.declared.one_walk.Asked.{Asked}
use Rattle.sql_report.specs.declared.one_walk.Asked.TheVariants as asked
use Rattle.sql_report.specs.declared.one_walk.Walk.{Walk}

-- what is asked for where this is drawn
abbrev pub asked_of : Drawing → Asked
asked_of drawing.Nothing = asked.Nothing
asked_of (drawing.Tree tree) = asked.Tree
asked_of (drawing.Json writer) = asked.Json

-- At this byte, a drawing of which some is handed out stands before the rest of these steps: with the rest it has the text of all.
abbrev pub DrawsBefore : Names → List ℕ → List OwnedStep → Drawing → ℕ → List OwnedStep → Type 0
DrawsBefore names given all drawing.Nothing at rest = given ≡ []
DrawsBefore names given all (drawing.Tree tree) at rest = (given ≡ []) × ((done : List OwnedStep) × (done ++ rest ≡ all) × StandsAfter tree done)
DrawsBefore names given all (drawing.Json writer) at rest = given ++ (string_bytes writer.lines ++ written_from names (standing writer at) rest) ≡ json_lines names all

-- What is drawn up to some steps, of which some is handed out: with any others behind them it is what is drawn of all.
pub record HasWalked (given : List ℕ) (walk : Walk) (done : List OwnedStep) : Type 0 where
  pub drawing : asked_of walk.drawing ≡ walk.asked
  pub at : walk.asked ≢ asked.Nothing → walk.at ≡ bytes_of done
  pub draws : (rest : List OwnedStep) → DrawsBefore walk.kind_names given (done ++ rest) walk.drawing walk.at rest
  pub names : walk.kind_names ≡ map (λ pair. (pair.0, pair.1.now)) walk.names.now

-- what a walk doesn't change
pub record IsSame (old new : Walk) : Type 0 where
  pub asked : new.asked ≡ old.asked
  pub names : new.names ≡ old.names
  pub kind_names : new.kind_names ≡ old.kind_names

-- an error's place can be moved by so many bytes
abbrev pub MovesWithin : ℕ → OwnedStep → Type 0
MovesWithin start (sent.Error text pos) = start + pos < 2 ^ 64
MovesWithin start step = Unit {0}
