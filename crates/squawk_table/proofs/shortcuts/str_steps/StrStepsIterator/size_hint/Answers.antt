use Rattle.std.proofs.Common.{◌≡◌, ◌∙◌, ℕ, List, ◌+◌, Option, Some, None, true, false, refl, length, arith, ap}
use Rattle.std.specs.Option.{is_some}
use Rattle.squawk_output.specs.Steps.{Step}
use Rattle.squawk_output.specs.declared.output.step.Step.{Step as Lent}
use Rattle.squawk_table.specs.SinkViews.{behind_pending}
use Rattle.squawk_table.proofs.NextStep.{length-sent_from, end_within, at_most_so_many}
use Rattle.squawk_table.proofs.shortcuts.str_steps.StrStepsIterator.size_hint.Goals as goal
use Rattle.squawk_table.proofs.shortcuts.str_steps.StrStepsIterator.size_hint.Goals.{After-checked_add}

-- one more, where a step is pending
with_pending : (pending : Option Lent) (steps : List Step) (n : ℕ) → (is_some pending ≡ true → n ≡ 1) → (is_some pending ≡ false → n ≡ 0) → length steps + n ≡ length (behind_pending pending steps)
with_pending None steps n some none = omega (arith, none refl)
with_pending (Some step) steps n some none = omega (arith, some refl)

counted : (c : After-checked_add) → c.len.result + c.from.result ≡ length (behind_pending c.self.inside.pending c.self.inside.steps)
counted c =
    let s = c.self.inside in
    ap (λ n. n + c.from.result) c.len.ensures
    ∙ with_pending s.pending s.steps c.from.result (λ e. rw (c.is_some.ensures, e) at c.from.ensures) (λ e. rw (c.is_some.ensures, e) at c.from.ensures)

pub returns-clause-lower : goal.returns-clause-lower
returns-clause-lower c = λ _.
    let s = c.self.inside in
    let left = behind_pending s.pending s.steps in
    let all = length-sent_from s.table.now s.raw s.depth left in
    omega (arith, counted c, ap (λ w. length w.steps) c.self.view_is)

pub returns-clause-upper : goal.returns-clause-upper
returns-clause-upper c =
    let s = c.self.inside in
    let left = behind_pending s.pending s.steps in
    let all = length-sent_from s.table.now s.raw s.depth left in
    let within = end_within s.table.now s.raw s.depth left c.self.invariant.1.tokens in
    at_most_so_many c.checked_add.result _ _ (length c.args.self.now.steps) c.checked_add.ensures
    (omega (arith, counted c, ap (λ w. length w.steps) c.self.view_is, c.self.invariant.0, c.self.invariant.1.within))
