use Rattle.std.proofs.Common.{◌∙◌, ap}
use Rattle.sql_tree.specs.Told.{unread_report}
use Rattle.sql_tree.specs.declared.unread.Unread.TheVariants.{Io}
use Rattle.sql_tree.proofs.TellsTextsLemmas.{IsShown, shows_opened, shows_unopened, tells_why}
use Rattle.sql_tree.proofs.inputs.tell.Goals as goal
use Rattle.sql_tree.proofs.inputs.tell.Goals.{in-Ok+in_ok-print_heading-in-Ok+in_ok-report-in-Ok, in-Err}

pub returns-clause-told : goal.returns-clause-told
returns-clause-told g c =
    let shown : IsShown g.T.Reader.Read.remaining c.args.sql.now c.args.listing c.args.has_heading c.args.name.now c.open.result c.match-open.report
    (g.W.Write.contents c.args.printer.now.out) (g.W.Write.contents c.match-open.printer.out)
    (g.E.Write.contents c.args.printer.now.errors) (g.E.Write.contents c.match-open.printer.errors) =
    elim c.match-open.branch [
      | in-Ok+in_ok-print_heading-in-Ok+in_ok-report-in-Ok w ↦ rw (w.report-is, w.printer-is)
          (shows_opened _ _ _ _ _ c.open.result w.in-Ok.reader w.in-Ok.is w.in_ok-report-in-Ok.report _ _ _ _ _ _
          w.in_ok-print_heading-in-Ok.ensures.ok (ap g.E.Write.contents w.in_ok-print_heading-in-Ok.ensures.errors) w.in_ok-report-in-Ok.ensures.told)
      | in-Err w ↦ rw (w.report-is, w.printer-is)
          (shows_unopened _ _ _ _ _ c.open.result w.in-Err.error w.in-Err.is w.unread-report.result
          (w.unread-report.ensures ∙ ap (λ kind. unread_report (Io kind)) w.kind.ensures) _ _)
    ] in
    tells_why g.T.Reader.Read.remaining c.args.sql.now c.args.listing c.args.has_heading c.args.name.now (g.T.Texts.gives c.args.texts.now) c.open.result c.match-open.report
    (g.W.Write.contents c.args.printer.now.out) (g.W.Write.contents c.print_reason.new.printer.out)
    (g.E.Write.contents c.args.printer.now.errors) (g.E.Write.contents c.match-open.printer.errors) (g.E.Write.contents c.print_reason.new.printer.errors)
    c.open.ensures (rw c.in_ok-print_reason.ensures.out shown) c.in_ok-print_reason.ensures.ok
