use Rattle.std.proofs.Common.{◌≡◌, ◌++◌, string_bytes}
use Rattle.squawk_answer.specs.Lines.{lex_lines}
use Rattle.squawk_answer.proofs.lines.error_lines.Given as goal

abbrev pub invariant-loop-error : goal.invariant-loop-error
invariant-loop-error l = string_bytes l.text ++ lex_lines l.error-iterator ≡ lex_lines l.fn.errors
