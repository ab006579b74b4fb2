use Rattle.std.proofs.Common.{◌≡◌, ◌∙◌, List, ℕ, [], ◌∷◌, ◌++◌, ap, map, subst, sym}
use Rattle.std.specs.Prelude.{string_bytes}
use Rattle.std.proofs.lemmas.List.{append-nil}
use Rattle.std.proofs.lemmas.Result.{IfOk-weaker}
use Rattle.squawk_table.specs.declared.shortcuts.str_step.OwnedStep.{OwnedStep}
use Rattle.squawk_table.specs.declared.shortcuts.str_step.OwnedStep.TheVariants.{Exit}
use Rattle.sql_report.specs.Drawn.{drawn}
use Rattle.sql_report.specs.JsonLines.{json_lines}
use Rattle.sql_report.specs.JsonTrees.{HasTreeLines}
use Rattle.sql_report.specs.OnTheWay.{DrawsBefore, HasWalked, asked_of}
use Rattle.sql_report.proofs.JsonForests.{tree_lines}
use Rattle.sql_report.proofs.one_walk.Walk.finish.Goals as goal

pub returns : goal.returns
returns c =
    let walk = c.step.new.self in
    let begun = c.args.self in
    let names = begun.kind_names in
    let same = c.step.ensures.same in
    let is_drawn : (text : List ℕ)
    → ((given : List ℕ) (all : List OwnedStep) (at : ℕ) → DrawsBefore (map (λ pair. (pair.0, pair.1.now)) walk.names.now) given all walk.drawing at []
    → given ++ text ≡ drawn (asked_of walk.drawing) (map (λ pair. (pair.0, pair.1.now)) walk.names.now) all)
    → (given : List ℕ) (done : List OwnedStep) → HasWalked given begun done → given ++ text ≡ drawn begun.asked names (done ++ Exit ∷ []) =
    λ text draws given done walked.
    let all = done ++ Exit ∷ [] in
    let w = c.in_ok-step.ensures.walks given done walked in
    let before : DrawsBefore walk.kind_names given all walk.drawing walk.at [] = subst (λ xs. DrawsBefore walk.kind_names given xs walk.drawing walk.at []) (append-nil all) (w.draws []) in
    draws given all walk.at (subst (λ pairs. DrawsBefore pairs given all walk.drawing walk.at []) w.names before)
    ∙ (ap (λ pairs. drawn (asked_of walk.drawing) pairs all) (sym w.names ∙ same.kind_names)
    ∙ ap (λ asked. drawn asked names all) (w.drawing ∙ same.asked)) in
    record {
      drawn = IfOk-weaker c.finish.result _ _ (λ text draws. is_drawn (string_bytes text) draws) c.finish.ensures;
      values = IfOk-weaker c.finish.result _ _
          (λ text draws given done table steps walked json fits sent.
          subst (λ xs. HasTreeLines names xs (given ++ string_bytes text)) sent
          (tree_lines names table steps (given ++ string_bytes text) fits
          (is_drawn (string_bytes text) draws given done walked ∙ (ap (λ asked. drawn asked names (done ++ Exit ∷ [])) json ∙ ap (json_lines names) (sym sent)))))
          c.finish.ensures;
    }
