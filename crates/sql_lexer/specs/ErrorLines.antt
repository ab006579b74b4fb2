-- The lines of refusals.
use Rattle.std.specs.Prelude.{ℕ, List, codes}
use Rattle.sql_lexer.specs.declared.tokenizer.TokenizeError.{TokenizeError}
use Rattle.sql_lexer.specs.declared.tokenizer.TokenizeError.TheVariants.{TextTooLong, OutOfMemory}

-- why a text has no tokens
abbrev pub tokenize_error_line : TokenizeError → List ℕ
tokenize_error_line TextTooLong = codes "text too long"
tokenize_error_line OutOfMemory = codes "memory"
