use Rattle.std.proofs.Common.{◌≡◌, drop}
use Rattle.std.specs.List.{list_any}
use Rattle.sql_lexer.specs.Bytes.{is_line_end}
use Rattle.sql_grammar.proofs.strings.has_line_end.Given as goal

abbrev pub invariant-loop-b : goal.invariant-loop-b
invariant-loop-b l = record {
  is : list_any is_line_end (drop l.b-index l.bytes) ≡ list_any is_line_end l.bytes;
}
