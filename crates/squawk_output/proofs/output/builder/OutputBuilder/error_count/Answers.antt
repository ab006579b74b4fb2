use Rattle.std.proofs.Common.{◌∙◌, ap, length, map}
use Rattle.std.proofs.lemmas.List.{length-map}
use Rattle.squawk_output.specs.Steps.{errors_in}
use Rattle.squawk_output.specs.StoredSteps.{step_in}
use Rattle.squawk_output.proofs.TrackedRoot.{tracked_errors}
use Rattle.squawk_output.proofs.output.builder.OutputBuilder.error_count.Goals as goal

pub returns : goal.returns
returns c =
    let inside = c.self.inside in
    let words = inside.words.items in
    let step = step_in inside.errors.items in
    tracked_errors (map step words) (length words) inside.error_steps inside.tracker c.self.invariant.tracker (length-map words step) c.self.invariant.error_steps
    ∙ ap (λ built. errors_in built.steps) c.self.view_is
