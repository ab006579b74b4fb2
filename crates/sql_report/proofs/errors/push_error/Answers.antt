use Rattle.std.proofs.Common.{◌≡◌, ◌∙◌, ◌++◌, ℕ, List, [], ◌∷◌, append_assoc}
use Rattle.std.proofs.lemmas.Result.{on_ok_weaker}
use Rattle.sql_report.specs.ErrorLines.{heading, mark}
use Rattle.sql_report.specs.Findings.{told}
use Rattle.sql_report.specs.Places.{shown_before, shown_behind}
use Rattle.sql_report.proofs.errors.push_error.Goals as goal

grouped : (old first second third fourth fifth : List ℕ)
    → ((((old ++ first) ++ second) ++ third) ++ fourth) ++ fifth ≡ old ++ ((((first ++ second) ++ third) ++ fourth) ++ fifth)
grouped old first second third fourth fifth = simp append_assoc

pub returns : goal.returns
returns c =
    let place = c.args.place.now in
    let before = shown_before place.window place.at in
    let behind = shown_behind place.window place.at in
    let shown = heading c.args.name.now c.args.at.line c.args.at.column (told c.args.finding) in
    let heading_is : c.as_bytes.result.now ≡ shown = c.as_bytes.ensures.value ∙ c.in_ok-heading.ensures in
    on_ok_weaker c.push_mark.result
    (λ same. same
    ∙ rw (
      c.in_ok-push.ensures.items,
      c.in_ok-extend_from_slice-3.ensures.items,
      c.in_ok-extend_from_slice-2.ensures.items,
      c.in_ok-extend_from_slice.ensures.items,
      heading_is,
      c.before-before.ensures,
      c.behind.ensures,
    ) (grouped c.args.lines.now.items shown before behind (10 ∷ []) (mark before)))
    c.push_mark.ensures
