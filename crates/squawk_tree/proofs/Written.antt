-- What is written of lines.
use Rattle.std.proofs.Common.{◌≡◌, ◌∙◌, ℕ, List, [], ap, sym}
use Rattle.std.specs.Prelude.{Result, Ok, Err, OnOk, is_ok, if◌then◌else◌}
use Rattle.std.proofs.lemmas.List.{append-nil}
use Rattle.squawk_kinds.specs.KindNames.{Names}
use Rattle.squawk_table.specs.declared.shortcuts.str_step.OwnedStep.{OwnedStep}
use Rattle.squawk_tree.specs.TreeText.{tree_text}
use Rattle.squawk_tree.specs.Drawing.{Drawing, StandsAfter, lines_text}

-- what an answer that isn't an error leaves
pub OnOk-same : {T E : Type 0} (r : Result T E) (new x y z : List ℕ) → new ≡ (if is_ok r then x else y) → x ≡ z → OnOk r (new ≡ z)
OnOk-same (Ok v) new x y z e h = e ∙ h
OnOk-same (Err v) new x y z e h = tt

-- the lines of a drawing that stands after steps
pub lines_text-stands : (drawing : Drawing) (names : Names) (steps : List OwnedStep) → StandsAfter drawing steps
    → lines_text names drawing.texts [] drawing.lines ≡ tree_text names steps
lines_text-stands drawing names steps stands =
    sym (append-nil (lines_text names drawing.texts [] drawing.lines)) ∙ (stands names [] ∙ ap (tree_text names) (append-nil steps))
