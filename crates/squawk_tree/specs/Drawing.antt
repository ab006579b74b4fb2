-- The lines that a sink keeps of a tree, and what steps they stand for.
use Rattle.std.specs.Prelude.{◌≡◌, ℕ, ◌+◌, List, [], ◌∷◌, ◌++◌, Some, None, length, slice_range, unwrap_or}
use Rattle.std.specs.Str.{chars}
use Rattle.squawk_kinds.specs.KindNames.{Names}
use Rattle.squawk_table.specs.declared.shortcuts.str_step.OwnedStep.{OwnedStep}
use Rattle.squawk_tree.specs.TreeText.{bytes_left, error_shown, line, span, text_from, token_shown, tree_text}
use Rattle.squawk_tree.specs.declared.line.Line.{Line}
use Rattle.squawk_tree.specs.declared.line.Shown.{Shown}
use Rattle.squawk_tree.specs.declared.line.Shown.TheVariants.{Node, Token, Error}

-- the lines so far, the indices of those that show open nodes, and the texts of all tokens, joined
pub record Drawing : Type 0 where
  pub lines : List Line
  pub open_lines : List ℕ
  pub texts : List ℕ

-- ---- open nodes

-- 1 for a node without an end, else 0
abbrev pub openings_in : Shown → ℕ
openings_in (Node kind start None) = 1
openings_in (Node kind start (Some end)) = 0
openings_in (Token kind start end) = 0
openings_in (Error text pos) = 0

-- how many lines show open nodes
abbrev pub open_count : List Line → ℕ
open_count [] = 0
open_count (line ∷ lines) = openings_in line.shown + open_count lines

-- ---- what a drawing stands for

-- what is shown, where an open node ends at a byte
abbrev pub shown_until : Names → List ℕ → ℕ → Shown → List ℕ
shown_until names texts at (Node kind start end) = span names kind start (unwrap_or end at)
shown_until names texts at (Token kind start end) = token_shown names kind start end (chars (slice_range texts start end))
shown_until names texts at (Error text pos) = error_shown text pos

-- the text of lines before further steps, at which their open nodes end
abbrev pub lines_text : Names → List ℕ → List OwnedStep → List Line → List ℕ
lines_text names texts further [] = []
lines_text names texts further (l ∷ lines) =
    line l.depth (shown_until names texts (length texts + bytes_left further (open_count lines)) l.shown) ++ lines_text names texts further lines

-- A drawing stands after steps if with any further steps it has the text of all.
abbrev pub StandsAfter : Drawing → List OwnedStep → Type 0
StandsAfter drawing steps = (names : Names) (further : List OwnedStep) →
    lines_text names drawing.texts further drawing.lines ++ text_from names (length drawing.open_lines) (length drawing.texts) further
    ≡ tree_text names (steps ++ further)
