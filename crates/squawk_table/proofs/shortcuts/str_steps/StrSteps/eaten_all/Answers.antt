use Rattle.std.proofs.Common.{◌∙◌, length, ap, sym}
use Rattle.std.specs.Prelude.{◌==◌}
use Rattle.squawk_table.specs.SinkViews.{behind_pending}
use Rattle.squawk_table.proofs.NextStep.{none_from}
use Rattle.squawk_table.proofs.shortcuts.str_steps.StrSteps.eaten_all.Goals as goal

pub returns : goal.returns
returns c = λ none.
    let s = c.self.inside in
    let left = behind_pending s.pending s.steps in
    let here = none_from s.table.now s.raw s.depth left (ap (λ w. w.steps) c.self.view_is ∙ none) in
    ap (λ n. s.raw == n) c.self.invariant.0 ∙ (ap (λ n. n == length s.table.now.kinds) (sym here) ∙ ap (λ w. w.eaten_all) c.self.view_is)
