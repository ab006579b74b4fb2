use Rattle.std.proofs.Common.{◌≡◌, ◌<◌, ◌-◌, length, take}
use Rattle.sql_document.specs.Pieces.{text_of}
use Rattle.sql_document.specs.Recuts.{StandBefore}
use Rattle.sql_document.proofs.recut.first_piece.Given as goal

abbrev pub invariant-loop-index : goal.invariant-loop-index
invariant-loop-index g l = record {
  within : l.index < length l.pieces;
  start : l.start ≡ length (text_of (take l.index l.pieces));
  before : StandBefore 0 (take l.index l.pieces) l.place;
}

abbrev pub decreases-loop-index : goal.decreases-loop-index
decreases-loop-index g l = length l.pieces - l.index
