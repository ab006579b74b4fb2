use Rattle.std.proofs.Common.{◌≡◌, take}
use Rattle.std.specs.Prelude.{string_bytes}
use Rattle.sql_document.specs.Pieces.{text_of}
use Rattle.sql_document.proofs.document.Document.text.Given as goal

abbrev pub invariant-loop-piece : goal.invariant-loop-piece
invariant-loop-piece g l = record { told : string_bytes l.text ≡ text_of (take l.piece-index l.self.1) }
