use Rattle.std.proofs.Common.{◌≡◌, ◌∙◌, ◌+◌, List, [], ◌∷◌, ◌++◌, ap, arith, inl, map, refl}
use Rattle.sql_report.specs.ErrorLines.{error_texts, moved_finding}
use Rattle.sql_report.specs.declared.finding_list.Finding.{Finding}
use Rattle.sql_report.proofs.errors.error_lines.Goals as goal

not_moved : (findings : List Finding) → map (moved_finding 0) findings ≡ findings
not_moved [] = refl
not_moved (f ∷ findings) =
    let same : 0 + f.at ≡ f.at = omega arith in
    ap (λ n. record f { at = n } ∷ map (moved_finding 0) findings) same ∙ ap (λ fs. f ∷ fs) (not_moved findings)

pub returns : goal.returns
returns c =
    let text = c.args.text.now in
    let findings = c.args.findings.now in
    c.in_ok-extend.ensures.lines text [] [] c.whole-place.ensures.of (λ i d lt. record { enough_before = inl refl; line_ends = inl refl })
    ∙ (ap (λ lines. lines ++ error_texts c.new-shown.result.name.now text (map (moved_finding 0) findings)) c.new-shown.ensures.empty
    ∙ (ap (error_texts c.new-shown.result.name.now text) (not_moved findings) ∙ ap (λ name. error_texts name text findings) c.new-shown.ensures.name))
