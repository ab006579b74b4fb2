-- The statuses and the lines of faults.
use Rattle.std.specs.Prelude.{ℕ, Option, None, Some, List, [], ◌++◌, codes}
use Rattle.std.specs.Fmt.{decimal}
use Rattle.squawk_document.specs.ErrorLines.{document_error_line}
use Rattle.squawk_document.specs.declared.document_error.DocumentError.TheVariants as document
use Rattle.squawk_tokens.specs.ErrorLines.{table_error_line}
use Rattle.squawk_tokens.specs.declared.check.TableError.TheVariants as table
use Rattle.squawk_parser.specs.ErrorLines.{parse_error_line}
use Rattle.squawk_parser.specs.declared.parser.parse_error.ParseError.TheVariants as parse
use Rattle.squawk_script.specs.ErrorLines.{script_error_line}
use Rattle.squawk_script.specs.declared.script_error.ScriptError.TheVariants as calls
use Rattle.squawk_answer.specs.declared.fault.Fault.{Fault}
use Rattle.squawk_answer.specs.declared.fault.Fault.TheVariants.{Document, Table, Script, Parse, DoesNotFit, Memory, Io}

-- the status that the program ends with: 7 where an allocation failed, at whatever stage
abbrev pub fault_status : Fault → ℕ
fault_status (Document document.OutOfMemory) = 7
fault_status (Document reason) = 2
fault_status (Table table.OutOfMemory) = 7
fault_status (Table reason) = 3
fault_status (Script calls.OutOfMemory) = 7
fault_status (Script reason) = 4
fault_status (Parse parse.OutOfMemory) = 7
fault_status (Parse reason) = 5
fault_status DoesNotFit = 6
fault_status Memory = 7
fault_status Io = 8

-- the line of a fault: that of the error that it wraps
abbrev pub fault_line : Fault → List ℕ
fault_line (Document reason) = document_error_line reason
fault_line (Table reason) = table_error_line reason
fault_line (Script reason) = script_error_line reason
fault_line (Parse reason) = parse_error_line reason
fault_line DoesNotFit = codes "does not fit"
fault_line Memory = codes "memory"
fault_line Io = codes "io"

-- the line that the program prints
abbrev pub printed_line : Fault → List ℕ
printed_line fault = fault_line fault ++ codes "\n"

-- the number of a line, if there is one
abbrev pub number_text : Option ℕ → List ℕ
number_text None = []
number_text (Some n) = decimal n
