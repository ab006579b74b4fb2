use Rattle.std.proofs.Common.{◌∙◌, [], ◌∷◌, ◌++◌, append_assoc, subst}
use Rattle.squawk_table.specs.SinkViews.{owned_step_of}
use Rattle.squawk_tree.specs.Drawing.{StandsAfter}
use Rattle.sql_report.specs.OnTheWay.{DrawsBefore}
use Rattle.sql_report.proofs.drawing.Drawing.step.Goals as goal

pub returns-in_ok-step-in-Tree-clause-draws : goal.returns-in_ok-step-in-Tree-clause-draws
returns-in_ok-step-in-Tree-clause-draws c = λ given all rest stood.
    let step = owned_step_of c.args.step.now in
    let before = subst (λ drawing. DrawsBefore c.args.names.now given all drawing c.args.at (step ∷ rest)) c.in-Tree.is stood in
    let done = before.1.0 in (
      before.0,
      (
        done ++ step ∷ [],
        append_assoc done (step ∷ []) rest ∙ before.1.1,
        subst (λ s. StandsAfter c.step.new.self (done ++ s ∷ [])) c.same.ensures (c.in_ok-step-in-Tree.ensures done before.1.2),
      ),
    )
