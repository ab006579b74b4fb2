-- Errors of texts of rules, and their lines.
use Rattle.std.specs.Prelude.{ℕ, List, ◌++◌, codes}
use Rattle.std.specs.Fmt.{decimal}
use Rattle.sql_lexer.specs.ErrorLines.{tokenize_error_line}
use Rattle.rule_text.specs.declared.error.Place.{Place}
use Rattle.rule_text.specs.declared.error.ReadError.{ReadError}
use Rattle.rule_text.specs.declared.error.ReadError.TheVariants.{Expected, Memory, Tokens, TooDeep}
use Rattle.rule_text.specs.declared.error.WordError.{WordError}
use Rattle.rule_text.specs.declared.error.WordError.TheVariants as words

-- the error of a text whose words have one
abbrev pub read_error_of : WordError → ReadError
read_error_of (words.Expected what at) = Expected what at
read_error_of (words.TooDeep at) = TooDeep at
read_error_of (words.Memory reason) = Memory reason

-- what is printed of a place, with what stands after it, and of an error
abbrev pub place_line : Place → List ℕ → List ℕ
place_line at rest = decimal at.line ++ (codes ":" ++ (decimal at.column ++ rest))

abbrev pub read_error_line : ReadError → List ℕ
read_error_line (Tokens reason) = tokenize_error_line reason
read_error_line (Expected what at) = place_line at (codes ": expected " ++ what.now)
read_error_line (TooDeep at) = place_line at (codes ": nested too deep")
read_error_line (Memory reason) = codes "memory"
