use Rattle.std.proofs.Common.{◌≡◌, ◌∙◌, [], ap, arith, subst, sym}
use Rattle.sql_report.specs.Places.{IsLineColumn, Spot}
use Rattle.sql_report.proofs.Windows.{whole_window}
use Rattle.sql_report.proofs.place.Place.whole.Goals as goal

pub returns-clause-of : goal.returns-clause-of
returns-clause-of c =
    let place = c.new.result in
    let window : place.window ≡ c.args.script.now = ap (λ (p : Spot). p.window) c.new.ensures ∙ c.as_bytes.ensures.value in
    whole_window c.args.script.now place window (subst (IsLineColumn []) (sym (ap (λ (p : Spot). p.before) c.new.ensures)) c.start.ensures)
    (omega arith)
