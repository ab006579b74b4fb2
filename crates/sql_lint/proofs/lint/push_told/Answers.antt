use Rattle.std.proofs.Common.{◌∙◌, ◌∷◌, [], ◌++◌, ap, map, sym}
use Rattle.std.proofs.lemmas.List.{append-nil, map-append}
use Rattle.sql_report.specs.Findings.{told}
use Rattle.sql_lint.proofs.Findings.{row_passed, row_told, tells_row}
use Rattle.sql_lint.proofs.lint.push_told.Goals as goal
use Rattle.sql_lint.proofs.lint.push_told.Goals.{then-is_broken+in_ok-push, else-is_broken}

pub loop-row-preserved : goal.loop-row-preserved
loop-row-preserved c =
    let found = map told c.loop-row.findings.items in
    tells_row c.args.at c.args.rows.now c.loop-row.row-index _ c.loop-row-test.true (map told c.args.findings.now.items) found
    (map told c.if-is_broken.findings.items) c.loop-row.invariant
    (elim c.if-is_broken.branch [
      | then-is_broken+in_ok-push w ↦
          ap (λ f. map told f.items) w.findings-is
          ∙ (ap (map told) w.in_ok-push.ensures.items
          ∙ (map-append told c.loop-row.findings.items (_ ∷ []) ∙ ap (λ l. found ++ l) (sym (row_told c.args.at _ _ w.if-is_broken.true))))
      | else-is_broken w ↦
          ap (λ f. map told f.items) w.findings-is
          ∙ (sym (append-nil found) ∙ ap (λ l. found ++ l) (sym (row_passed c.args.at _ _ w.if-is_broken.false)))
    ])
