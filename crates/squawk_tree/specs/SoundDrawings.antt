-- What a sink keeps of its lines, and how it closes one. Only its invariant and contracts of private functions cite it.
use Rattle.std.specs.Prelude.{◌≡◌, ℕ, suc, ◌≤◌, List, [], ◌∷◌, All, Some, None, IsCharBoundary}
use Rattle.squawk_tree.specs.Drawing.{Drawing}
use Rattle.squawk_tree.specs.declared.line.Line.{Line}
use Rattle.squawk_tree.specs.declared.line.Shown.{Shown}
use Rattle.squawk_tree.specs.declared.line.Shown.TheVariants.{Node, Token, Error}

-- ---- open nodes

-- the index of a line, if it shows an open node, before others
abbrev pub before_indices : ℕ → Shown → List ℕ → List ℕ
before_indices index (Node kind start None) indices = index ∷ indices
before_indices index (Node kind start (Some end)) indices = indices
before_indices index (Token kind start end) indices = indices
before_indices index (Error text pos) indices = indices

-- the indices of the lines that show open nodes, if the first has this index
abbrev pub open_indices : ℕ → List Line → List ℕ
open_indices index [] = []
open_indices index (line ∷ lines) = before_indices index line.shown (open_indices (suc index) lines)

-- what is shown, with this end if it is a node
abbrev pub closed : ℕ → Shown → Shown
closed at (Node kind start end) = Node kind start (Some at)
closed at (Token kind start end) = Token kind start end
closed at (Error text pos) = Error text pos

-- the line, with this end if it shows a node
abbrev pub closed_line : ℕ → Line → Line
closed_line at line = record line { shown = closed at line.shown }

-- ---- sound drawings

-- a token's text is a part of the texts
abbrev pub IsPart : List ℕ → Shown → Type 0
IsPart texts (Node kind start end) = Unit {0}
IsPart texts (Token kind start end) = (start ≤ end) × IsCharBoundary texts start × IsCharBoundary texts end
IsPart texts (Error text pos) = Unit {0}

-- The open lines are those whose nodes have no end, in their order, and the texts have what each line shows of them.
pub record IsSoundDrawing (drawing : Drawing) : Type 0 where
  pub indices : drawing.open_lines ≡ open_indices 0 drawing.lines
  pub parts : All (λ line. IsPart drawing.texts line.shown) drawing.lines
