use Rattle.std.proofs.Common.{◌≡◌, ◌∙◌, [], ap, refl}
use Rattle.std.specs.Prelude.{Err}
use Rattle.std.proofs.KnownBytes.{Appends-nil, Consumes-nil}
use Rattle.sql_tree.specs.Told.{unread_report}
use Rattle.sql_tree.specs.declared.stop.Stop.TheVariants as stop
use Rattle.sql_tree.specs.declared.unread.Unread.TheVariants.{OutOfMemory}
use Rattle.sql_tree.proofs.Reports.{PrintsScript, if_unread, parts_unread, tells_front, tells_whole, unread_as, unread_front, unread_whole}
use Rattle.sql_tree.proofs.report.tell_script.Goals.{in-Ok, in-Err-Unread}
use Rattle.sql_tree.proofs.report.tell_script.Goals as goal

pub returns-in_err-telling-clause-unread : goal.returns-in_err-telling-clause-unread
returns-in_err-telling-clause-unread g c =
    let remaining = g.R.Read.remaining c.args.reader in
    let sql = c.args.sql.now in
    let listing = c.args.listing in
    let name = c.args.name.now in
    let out = g.W.Write.contents c.args.printer.now.out in
    let errors = g.E.Write.contents c.args.printer.now.errors in
    unread_as c.from_residual.result (stop.Unread OutOfMemory) (λ reason. PrintsScript remaining sql listing name out out errors errors (unread_report reason)) c.from_residual.ensures.1
    ([], [], (Appends-nil out, (Appends-nil errors, parts_unread remaining remaining sql listing name [] [] [] OutOfMemory refl (Consumes-nil remaining))))

pub returns-in_err-statement_count-clause-unread : goal.returns-in_err-statement_count-clause-unread
returns-in_err-statement_count-clause-unread g c =
    let remaining = g.R.Read.remaining c.args.reader in
    let sql = c.args.sql.now in
    let listing = c.args.listing in
    let name = c.args.name.now in
    let out = g.W.Write.contents c.args.printer.now.out in
    let out_then = g.W.Write.contents c.read.new.printer.out in
    let out_now = g.W.Write.contents c.finish.new.printer.out in
    let errors = g.E.Write.contents c.args.printer.now.errors in
    let errors_then = g.E.Write.contents c.read.new.printer.errors in
    let errors_now = g.E.Write.contents c.finish.new.printer.errors in
    let tells = c.read.ensures.tells sql listing name c.in_ok-telling.ensures.is c.in_ok-telling.ensures.begins in
    let same = ap g.E.Write.contents c.finish.ensures.errors in
    let why = c.in_err-statement_count.field-0.0 in
    unread_as c.from_residual-in_err-statement_count.result why (λ reason. PrintsScript remaining sql listing name out out_now errors errors_now (unread_report reason)) c.from_residual-in_err-statement_count.ensures.1
    (if_unread why (λ reason. (reason ≡ OutOfMemory) × (c.finish.new.printer.out ≡ c.read.new.printer.out)) (λ reason. PrintsScript remaining sql listing name out out_now errors errors_now (unread_report reason))
    (λ reason is. elim c.match-read.branch [
      | in-Ok w ↦
          unread_whole remaining sql listing name out out_then out_now errors errors_then errors_now c.read.new.self same c.read.result tells
          w.in-Ok.is reason is.0 (ap g.W.Write.contents is.1)
      | in-Err-Unread w ↦
          unread_front remaining sql listing name out out_then out_now errors errors_then errors_now c.read.new.self same c.read.result tells
          w.in-Err-Unread.reason (w.in-Err-Unread.is ∙ ap Err w.in-Err-Unread.field-0-is) reason is.0 (ap g.W.Write.contents is.1)
    ])
    c.in_err-statement_count.ensures.unread)

pub returns-clause-told : goal.returns-clause-told
returns-clause-told g c =
    let remaining = g.R.Read.remaining c.args.reader in
    let sql = c.args.sql.now in
    let listing = c.args.listing in
    let name = c.args.name.now in
    let out = g.W.Write.contents c.args.printer.now.out in
    let out_then = g.W.Write.contents c.read.new.printer.out in
    let out_now = g.W.Write.contents c.finish.new.printer.out in
    let errors = g.E.Write.contents c.args.printer.now.errors in
    let errors_then = g.E.Write.contents c.read.new.printer.errors in
    let errors_now = g.E.Write.contents c.finish.new.printer.errors in
    let same = ap g.E.Write.contents c.finish.ensures.errors in
    let tells = c.read.ensures.tells sql listing name c.in_ok-telling.ensures.is c.in_ok-telling.ensures.begins in
    let ends = c.in_ok-statement_count.ensures.finishes in
    let statements = c.in_ok-statement_count.statement_count in
    let found = c.in_ok-statement_count.error_count in
    elim c.match-read.branch [
      | in-Ok w ↦
          tells_whole remaining sql listing name out out_then out_now errors errors_then errors_now c.read.new.self same c.read.result tells c.match-read.unread ends.0 statements found
          w.in-Ok.is w.unread-is ends.1.0 ends.1.1
      | in-Err-Unread w ↦
          tells_front remaining sql listing name out out_then out_now errors errors_then errors_now c.read.new.self same c.read.result tells c.match-read.unread ends.0 statements found
          w.in-Err-Unread.reason (w.in-Err-Unread.is ∙ ap Err w.in-Err-Unread.field-0-is) w.unread-is ends.1.0 ends.1.1
    ]

pub returns-in-Err-Unread-OutOfMemory-clause-unread : goal.returns-in-Err-Unread-OutOfMemory-clause-unread
returns-in-Err-Unread-OutOfMemory-clause-unread g c =
    let sql = c.args.sql.now in
    let listing = c.args.listing in
    let name = c.args.name.now in
    let out = g.W.Write.contents c.read.new.printer.out in
    let errors = g.E.Write.contents c.read.new.printer.errors in
    let tells = c.read.ensures.tells sql listing name c.in_ok-telling.ensures.is c.in_ok-telling.ensures.begins in
    unread_front (g.R.Read.remaining c.args.reader) sql listing name (g.W.Write.contents c.args.printer.now.out) out out (g.E.Write.contents c.args.printer.now.errors) errors errors
    c.read.new.self refl c.read.result tells OutOfMemory (c.in-Err-Unread-OutOfMemory.is ∙ ap Err (c.in-Err-Unread-OutOfMemory.field-0-is ∙ ap stop.Unread c.in-Err-Unread-OutOfMemory.field-0-0-is)) OutOfMemory refl refl
