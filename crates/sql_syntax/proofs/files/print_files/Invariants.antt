use Rattle.std.proofs.Common.{map, take}
use Rattle.std.specs.Prelude.{string_bytes}
use Rattle.sql_syntax.specs.Printed.{ArePrinted}
use Rattle.sql_syntax.proofs.files.print_files.Given as goal

abbrev pub invariant-loop-name : goal.invariant-loop-name
invariant-loop-name g l =
    ArePrinted (g.T.Texts.gives l.texts) (g.R.Reporter.reports l.reporter) (map string_bytes (take l.name-index l.names))
    (g.W.Write.contents l.initial.out) (g.W.Write.contents l.out) l.is_clean
