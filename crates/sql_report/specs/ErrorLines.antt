-- Errors as compilers show them.
use Rattle.std.specs.Prelude.{◌≡◌, ℕ, ◌+◌, ◌-◌, ◌^◌, ◌==◌, min, Option, Some, None, List, [], ◌++◌, codes, if◌then◌else◌, length}
use Rattle.std.specs.List.{flat_map}
use Rattle.std.specs.Fmt.{decimal}
use Rattle.squawk_table.specs.declared.shortcuts.str_step.OwnedStep.{OwnedStep}
use Rattle.squawk_tokens.specs.LexicalErrors.{LexicalError}
use Rattle.sql_report.specs.Findings.{AreInOrder, Told, all_told, told}
use Rattle.sql_report.specs.declared.errors.ErrorLines.{ErrorLines}
use Rattle.sql_report.specs.declared.finding_list.Finding.{Finding}
use Rattle.sql_report.specs.Places.{begins_character, column_at, line_at, shown_before, shown_behind}

-- what is wanted, where an error says so
abbrev pub hint_part : Option (List ℕ) → List ℕ
hint_part None = []
hint_part (Some hint) = codes " (" ++ hint ++ codes ")"

-- where an error stands, and what it says
abbrev pub heading : List ℕ → ℕ → ℕ → Told → List ℕ
heading name line column error =
    name ++ codes ":" ++ decimal line ++ codes ":" ++ decimal column ++ codes ": " ++ error.message ++ hint_part error.hint ++ codes "\n"

-- a tab under a tab, else a space
abbrev pub under : ℕ → List ℕ
under byte = if begins_character byte then (if byte == 9 then codes "\t" else codes " ") else []

-- a mark under what stands behind these bytes
abbrev pub mark : List ℕ → List ℕ
mark before = flat_map under before ++ codes "^\n"

-- an error in a line of which this stands before it and this behind, and a mark under it
abbrev pub shown_error : List ℕ → ℕ → ℕ → List ℕ → List ℕ → Told → List ℕ
shown_error name line column before behind error = heading name line column error ++ before ++ behind ++ codes "\n" ++ mark before

-- an error, shown at a byte of a text that is called by a name
abbrev pub error_at : List ℕ → List ℕ → ℕ → Told → List ℕ
error_at name text at error = shown_error name (line_at text at) (column_at text at) (shown_before text at) (shown_behind text at) error

-- each error, shown where it stands
abbrev pub error_texts : List ℕ → List ℕ → List Finding → List ℕ
error_texts name text findings = flat_map (λ finding. error_at name text finding.at (told finding)) findings

-- ---- part by part

-- an error of a part that begins at a byte
abbrev pub moved_finding : ℕ → Finding → Finding
moved_finding start finding = record finding { at = start + finding.at }

-- These lexical errors of a script and those of these steps are shown, in the order of their places. Some of their lines are handed
-- out. At most the greatest `usize` are counted.
pub record HasShown (script given : List ℕ) (errors : List LexicalError) (done : List OwnedStep) (shown : ErrorLines) : Type 0 where
  pub findings : List Finding
  pub in_order : AreInOrder (all_told errors done) findings
  pub lines : given ++ shown.lines.items ≡ error_texts shown.name.now script findings
  pub count : shown.count ≡ min (length findings) (2 ^ 64 - 1)
