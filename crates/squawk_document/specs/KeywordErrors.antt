-- The errors of making a document's vocabulary.
use Rattle.squawk_document.specs.declared.document_error.DocumentError.{DocumentError}
use Rattle.squawk_document.specs.declared.document_error.DocumentError.TheVariants.{Shape, OutOfMemory}
use Rattle.squawk_keywords.specs.declared.keywords_error.KeywordsError.{KeywordsError}
use Rattle.squawk_keywords.specs.declared.keywords_error.KeywordsError.TheVariants.{Keyword, Contextual, OutOfMemory as NoMemory}

-- a kind that is no keyword's is not the shape of a document
abbrev pub error_of : KeywordsError → DocumentError
error_of (Keyword index) = Shape
error_of (Contextual index) = Shape
error_of NoMemory = OutOfMemory
