use Rattle.std.proofs.Common.{map, take}
use Rattle.sql_tree.specs.Told.{TellsTexts}
use Rattle.sql_tree.proofs.inputs.tell_texts.Given as goal

abbrev pub invariant-loop-name : goal.invariant-loop-name
invariant-loop-name g l =
    TellsTexts (g.T.Texts.gives l.texts) g.T.Reader.Read.remaining l.sql l.listing l.has_heading (map (λ name. name.now) (take l.name-index l.names)) l.totals
    (g.W.Write.contents l.initial.printer.out) (g.W.Write.contents l.printer.out)
    (g.E.Write.contents l.initial.printer.errors) (g.E.Write.contents l.printer.errors)
