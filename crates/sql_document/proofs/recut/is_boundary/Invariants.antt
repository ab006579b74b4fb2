use Rattle.std.proofs.Common.{◌≡◌, ◌+◌, length, take}
use Rattle.sql_document.specs.Pieces.{text_of}
use Rattle.sql_document.proofs.recut.is_boundary.Given as goal

abbrev pub invariant-loop-piece : goal.invariant-loop-piece
invariant-loop-piece g l = record { at : length (text_of (take l.piece-index l.pieces)) + l.left ≡ l.place }
