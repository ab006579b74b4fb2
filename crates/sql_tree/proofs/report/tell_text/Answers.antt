use Rattle.std.proofs.Common.{subst, sym}
use Rattle.sql_tree.specs.declared.options.Listing.TheVariants.{Tokens}
use Rattle.sql_tree.proofs.Reports.{PrintsScript, PrintsText, ok_of, prints_text}
use Rattle.sql_tree.proofs.report.tell_text.Goals.{in-Tokens, in_default}
use Rattle.sql_tree.proofs.report.tell_text.Goals as goal

pub returns-in-Ok-clause-told : goal.returns-in-Ok-clause-told
returns-in-Ok-clause-told g c =
    let remaining = g.R.Read.remaining c.args.reader in
    let sql = c.args.sql.now in
    let name = c.args.name.now in
    let listing = c.args.listing in
    let out = g.W.Write.contents c.args.printer.now.out in
    let errors = g.E.Write.contents c.args.printer.now.errors in
    let report = c.in-Ok.report in
    let now = c.match-listing.printer in
    elim c.match-listing.branch [
      | in-Tokens w ↦
          let then = w.tell_tokens-told.new.printer in
          let tells : PrintsText remaining sql Tokens name out (g.W.Write.contents then.out) errors (g.E.Write.contents then.errors) report =
          ok_of w.tell_tokens-told.result c.match-listing.told (PrintsText remaining sql Tokens name out (g.W.Write.contents then.out) errors (g.E.Write.contents then.errors)) report w.told-is c.in-Ok.is w.tell_tokens-told.ensures.told in
          subst (λ printer. PrintsText remaining sql listing name out (g.W.Write.contents printer.out) errors (g.E.Write.contents printer.errors) report) (sym w.printer-is)
          (subst (λ listing. PrintsText remaining sql listing name out (g.W.Write.contents then.out) errors (g.E.Write.contents then.errors) report) (sym w.in-Tokens.is) tells)
      | in_default w ↦
          let then = w.tell_script-told.new.printer in
          let tells : PrintsScript remaining sql listing name out (g.W.Write.contents then.out) errors (g.E.Write.contents then.errors) report =
          ok_of w.tell_script-told.result c.match-listing.told (PrintsScript remaining sql listing name out (g.W.Write.contents then.out) errors (g.E.Write.contents then.errors)) report w.told-is c.in-Ok.is w.tell_script-told.ensures.told in
          subst (λ printer. PrintsText remaining sql listing name out (g.W.Write.contents printer.out) errors (g.E.Write.contents printer.errors) report) (sym w.printer-is)
          (prints_text remaining sql listing name out (g.W.Write.contents then.out) errors (g.E.Write.contents then.errors) report w.in_default.not-Tokens tells)
    ]
