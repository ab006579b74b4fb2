use Rattle.std.proofs.Common.{◌≡◌, ◌∙◌, ◌+◌, ◌<◌, ◌≤◌, ◌++◌, IfOk, append-nil, ap, arith, length, map, refl, subst, sym}
use Rattle.std.specs.Prelude.{All}
use Rattle.std.specs.List.{flat_map}
use Rattle.std.proofs.lemmas.Result.{IfOk-weaker}
use Rattle.squawk_output.specs.Steps.{errors_in}
use Rattle.squawk_table.specs.Sent.{sent_list}
use Rattle.sql_report.specs.Findings.{AreInOrder, all_told, told, told_in, told_lexical}
use Rattle.sql_report.proofs.Bounds.{lexical_within, sent_within}
use Rattle.sql_report.proofs.InOrder.{all_weaker, in_order_below}
use Rattle.sql_report.proofs.SentErrors.{TellsErrors, none_sent}
use Rattle.sql_report.proofs.finding_list.findings.Goals as goal
use Rattle.sql_report.proofs.finding_list.findings.Goals.{else-error_count-gt0, then-error_count-gt0+in_ok-push_sent}

tells : TellsErrors told_in
tells = record { token = λ kind text. refl; enter = λ kind. refl; exit = refl; error = λ text pos. refl }

pub returns : goal.returns
returns c =
    let table = c.args.table.now in
    let steps = c.args.output.now.steps in
    let is_table = c.len-raw_count.ensures.table in
    let sent = sent_list table steps in
    let lexical = map told_lexical table.errors in
    let same : map told c.if-error_count-gt0.all.items ≡ all_told table.errors sent =
    elim c.if-error_count-gt0.branch [
      | then-error_count-gt0+in_ok-push_sent w ↦
          ap (λ all. map told all.items) w.all-is ∙ (w.in_ok-push_sent.ensures ∙ ap (λ xs. xs ++ flat_map told_in sent) c.in_ok-all.ensures)
      | else-error_count-gt0 w ↦
          let none : errors_in steps ≡ 0 = omega (arith, c.error_count.ensures, w.if-error_count-gt0.false) in
          ap (λ all. map told all.items) w.all-is
          ∙ (c.in_ok-all.ensures ∙ sym (ap (λ xs. lexical ++ xs) (none_sent told_in tells table is_table steps c.requires none) ∙ append-nil lexical))
    ] in
    let order = subst (λ errors. IfOk c.in_order.result (λ all. AreInOrder errors all.items)) same c.in_order.ensures in
    let n = length table.text + 1 in
    record {
      order = order;
      within = IfOk-weaker c.in_order.result _ (λ all. All (λ finding. finding.at ≤ length table.text) all.items)
          (λ all is. all_weaker {P = λ f. f.at < n} {Q = λ f. f.at ≤ length table.text} all.items (λ f lt. omega (arith, lt))
          (in_order_below n table.errors sent all.items is (lexical_within table is_table) (sent_within table is_table steps c.requires))) order;
    }
