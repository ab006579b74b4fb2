-- The lines of the errors of making a vocabulary.
use Rattle.std.specs.Prelude.{ℕ, List, ◌++◌, codes}
use Rattle.std.specs.Fmt.{decimal}
use Rattle.squawk_keywords.specs.declared.keywords_error.KeywordsError.{KeywordsError}
use Rattle.squawk_keywords.specs.declared.keywords_error.KeywordsError.TheVariants.{Keyword, Contextual, OutOfMemory}

-- the line of an error: which word has a kind that is no keyword's
abbrev pub keywords_error_line : KeywordsError → List ℕ
keywords_error_line (Keyword index) = codes "kind of keyword " ++ decimal index
keywords_error_line (Contextual index) = codes "kind of contextual keyword " ++ decimal index
keywords_error_line OutOfMemory = codes "memory"
