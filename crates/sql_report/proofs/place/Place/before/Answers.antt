use Rattle.std.proofs.Common.{◌≡◌, ◌∙◌, ap, drop, sym, take}
use Rattle.std.proofs.lemmas.List.{take_rest}
use Rattle.sql_report.specs.Places.{last_line}
use Rattle.sql_report.proofs.LastLines.{near, near-last_line, past_continuation}
use Rattle.sql_report.proofs.place.Place.before.Goals as goal

pub returns : goal.returns
returns c =
    let front = take c.self.inside.at c.self.inside.window.now in
    let line = c.last_line-near.result.now in
    let cut = c.saturating_sub.result in
    let line_is : line ≡ near (last_line front) =
    c.last_line-near.ensures ∙ (ap last_line (take_rest front cut ∙ ap (λ n. drop n front) c.saturating_sub.ensures) ∙ sym (near-last_line front)) in
    rw (← c.self.view_is) (take_rest line c.continuation_len.result ∙ (ap (λ n. drop n line) c.continuation_len.ensures.len ∙ ap past_continuation line_is))
