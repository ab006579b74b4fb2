-- The lines of the errors of parses, and of the calls from a text to a sink.
use Rattle.std.specs.Prelude.{ℕ, List, codes, Option, Some}
use Rattle.squawk_parser.specs.declared.parser.parse_error.ParseError.{ParseError}
use Rattle.squawk_parser.specs.declared.parser.parse_error.ParseError.TheVariants.{OutOfMemory, TooManyEvents, TooManyErrors}
use Rattle.squawk_tokens.specs.ErrorLines.{table_error_line}
use Rattle.squawk_parser.specs.declared.pipeline.errors.ParseIntoError.{ParseIntoError}
use Rattle.squawk_parser.specs.declared.pipeline.errors.ParseIntoError.TheVariants.{Table, Input, Parse, NoRoot, Sink}

-- the line of a parse's error
abbrev pub parse_error_line : ParseError → List ℕ
parse_error_line OutOfMemory = codes "memory"
parse_error_line TooManyEvents = codes "too many events"
parse_error_line TooManyErrors = codes "too many errors"

-- the line of the stage that failed
abbrev pub parse_into_error_line : {R : Type 0} → (R → Option (List ℕ)) → ParseIntoError R → Option (List ℕ)
parse_into_error_line line (Table reason) = Some (table_error_line reason)
parse_into_error_line line (Input reason) = Some (codes "memory")
parse_into_error_line line (Parse reason) = Some (parse_error_line reason)
parse_into_error_line line NoRoot = Some (codes "no root")
parse_into_error_line line (Sink answer) = line answer
