-- The lines of the errors of reading a document.
use Rattle.std.specs.Prelude.{ℕ, List, codes}
use Rattle.squawk_document.specs.declared.document_error.DocumentError.{DocumentError}
use Rattle.squawk_document.specs.declared.document_error.DocumentError.TheVariants.{Json, Shape, OutOfMemory}

-- the line of an error
abbrev pub document_error_line : DocumentError → List ℕ
document_error_line Json = codes "json"
document_error_line Shape = codes "shape"
document_error_line OutOfMemory = codes "memory"
