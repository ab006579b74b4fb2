use Rattle.std.proofs.Common.{◌≡◌, ◌∙◌, Some, ap, drop, length, refl, subst, sym}
use Rattle.std.specs.Io.KnownBytes.{Consumes}
use Rattle.std.specs.Str.{IsValidUpTo}
use Rattle.std.proofs.lemmas.Result.{IfOk-weaker}
use Rattle.sql_lexer.specs.Scripts.{script_tokens}
use Rattle.sql_report.specs.TokenLines.{token_lines}
use Rattle.sql_tree.specs.Refusals.{unread_of_lexer}
use Rattle.sql_tree.specs.Told.{unread_report}
use Rattle.sql_tree.specs.declared.options.Listing.TheVariants.{Tokens}
use Rattle.sql_tree.specs.declared.report.Report.{Report}
use Rattle.sql_tree.specs.declared.stop.Stop.TheVariants as stop
use Rattle.sql_tree.specs.declared.unread.Unread.TheVariants.{Io, NotUtf8, OutOfMemory}
use Rattle.sql_tree.proofs.Reports.{PrintsScript, PrintsText, nothing_printed, stops_lexer, tells_more, text_is, unread_as, unread_weaker}
use Rattle.sql_tree.proofs.report.tell_tokens.Given.{Over}
use Rattle.sql_tree.proofs.report.tell_tokens.Goals as goal

pub returns-in-Err-clause-unread : goal.returns-in-Err-clause-unread
returns-in-Err-clause-unread g c =
    nothing_printed (g.R.Read.remaining c.args.reader) (g.R.Read.remaining c.read_to_end.new.self) c.args.sql.now c.args.name.now
    (drop (length c.new-bytes.result.items) c.read_to_end.new.buf.items) (g.W.Write.contents c.args.printer.now.out) (g.E.Write.contents c.args.printer.now.errors)
    (Io c.kind.result) c.read_to_end.ensures.none_lost (λ short. tt)

pub returns-in_err-tokens-in-Ok-clause-unread : goal.returns-in_err-tokens-in-Ok-clause-unread
returns-in_err-tokens-in-Ok-clause-unread g c =
    let remaining = g.R.Read.remaining c.args.reader in
    let after = g.R.Read.remaining c.read_to_end.new.self in
    let sql = c.args.sql.now in
    let name = c.args.name.now in
    let out = g.W.Write.contents c.args.printer.now.out in
    let errors = g.E.Write.contents c.args.printer.now.errors in
    let text = c.in-Ok.text.now in
    let same : drop (length c.new-bytes.result.items) c.read_to_end.new.buf.items ≡ text =
    text_is c.new-bytes.result.items c.read_to_end.new.buf.items c.deref.result.now text c.new-bytes.ensures.items c.deref.ensures.value c.in-Ok.ensures.cases.0 in
    let reason = c.in_err-tokens-in-Ok.field-0.0 in
    unread_as c.from_residual.result (stop.Unread (unread_of_lexer reason)) (λ reason. PrintsText remaining sql Tokens name out out errors errors (unread_report reason)) c.from_residual.ensures.1
    (nothing_printed remaining after sql name text out errors (unread_of_lexer reason)
    (subst (Consumes remaining after) same c.read_to_end.ensures.none_lost) (stops_lexer sql text reason c.in_err-tokens-in-Ok.ensures.refused))

pub returns-in_err-token_lines-in-Ok-clause-unread : goal.returns-in_err-token_lines-in-Ok-clause-unread
returns-in_err-token_lines-in-Ok-clause-unread g c =
    let remaining = g.R.Read.remaining c.args.reader in
    let sql = c.args.sql.now in
    let name = c.args.name.now in
    let out = g.W.Write.contents c.args.printer.now.out in
    let errors = g.E.Write.contents c.args.printer.now.errors in
    unread_as c.from_residual-in_err-token_lines-in-Ok.result (stop.Unread OutOfMemory) (λ reason. PrintsText remaining sql Tokens name out out errors errors (unread_report reason))
    c.from_residual-in_err-token_lines-in-Ok.ensures.1
    (nothing_printed remaining (g.R.Read.remaining c.read_to_end.new.self) sql name (drop (length c.new-bytes.result.items) c.read_to_end.new.buf.items) out errors OutOfMemory c.read_to_end.ensures.none_lost (λ short. tt))

-- the raw tokens, and what is told of the script
prints_more : (g : Over) (c : goal.After-drop-reader-in-Ok g) (report : Report)
    → PrintsScript (Some c.as_bytes-in-Ok.result.now) c.args.sql.now Tokens c.args.name.now (g.W.Write.contents c.print.new.self.out) (g.W.Write.contents c.tell_script.new.printer.out)
    (g.E.Write.contents c.print.new.self.errors) (g.E.Write.contents c.tell_script.new.printer.errors) report
    → PrintsText (g.R.Read.remaining c.args.reader) c.args.sql.now Tokens c.args.name.now (g.W.Write.contents c.args.printer.now.out) (g.W.Write.contents c.tell_script.new.printer.out)
    (g.E.Write.contents c.args.printer.now.errors) (g.E.Write.contents c.tell_script.new.printer.errors) report
prints_more g c report tells =
    let remaining = g.R.Read.remaining c.args.reader in
    let after = g.R.Read.remaining c.read_to_end.new.self in
    let bytes = c.as_bytes-in-Ok.result.now in
    let raw = c.as_bytes.result.now in
    let same : drop (length c.new-bytes.result.items) c.read_to_end.new.buf.items ≡ bytes =
    text_is c.new-bytes.result.items c.read_to_end.new.buf.items c.deref.result.now bytes c.new-bytes.ensures.items c.deref.ensures.value (c.as_bytes-in-Ok.ensures.value ∙ c.in-Ok.ensures.cases.0) in
    let raw_is : raw ≡ token_lines 0 (script_tokens bytes) =
    c.as_bytes.ensures.value
    ∙ (c.in_ok-token_lines-in-Ok.ensures
    ∙ ap (token_lines 0) (c.deref-in-Ok.ensures.value ∙ (c.in_ok-tokens-in-Ok.ensures.tokens ∙ ap script_tokens (sym c.as_bytes-in-Ok.ensures.value)))) in
    tells_more remaining after c.args.sql.now c.args.name.now bytes raw
    (g.W.Write.contents c.args.printer.now.out) (g.W.Write.contents c.print.new.self.out) (g.W.Write.contents c.tell_script.new.printer.out)
    (g.E.Write.contents c.args.printer.now.errors) (g.E.Write.contents c.print.new.self.errors) (g.E.Write.contents c.tell_script.new.printer.errors) report
    (subst (Consumes remaining after) same c.read_to_end.ensures.none_lost) c.in_default.ensures.end raw_is c.in_ok-print-in-Ok.ensures.ok (ap g.E.Write.contents c.print.ensures.errors) tells

pub returns-in-Ok-clause-told : goal.returns-in-Ok-clause-told
returns-in-Ok-clause-told g c = IfOk-weaker c.tell_script.result _ _ (prints_more g c) c.tell_script.ensures.told

pub returns-in-Ok-clause-unread : goal.returns-in-Ok-clause-unread
returns-in-Ok-clause-unread g c = unread_weaker c.tell_script.result _ _ (λ reason. prints_more g c (unread_report reason)) c.tell_script.ensures.unread

pub returns-clause-unread : goal.returns-clause-unread
returns-clause-unread g c =
    let remaining = g.R.Read.remaining c.args.reader in
    let after = g.R.Read.remaining c.read_to_end.new.self in
    let bytes = c.deref.result.now in
    let same : drop (length c.new-bytes.result.items) c.read_to_end.new.buf.items ≡ bytes =
    text_is c.new-bytes.result.items c.read_to_end.new.buf.items bytes bytes c.new-bytes.ensures.items c.deref.ensures.value refl in
    nothing_printed remaining after c.args.sql.now c.args.name.now bytes (g.W.Write.contents c.args.printer.now.out) (g.E.Write.contents c.args.printer.now.errors) (NotUtf8 c.valid_up_to.result)
    (subst (Consumes remaining after) same c.read_to_end.ensures.none_lost) (λ short. subst (IsValidUpTo bytes) (sym c.valid_up_to.ensures) c.in-Err-from_utf8.ensures.cases.1)
