use Rattle.std.proofs.Common.{◌∙◌, [], ◌∷◌, ◌++◌, append_assoc, ap, subst, sym}
use Rattle.squawk_table.specs.SinkViews.{owned_step_of}
use Rattle.squawk_table.proofs.lexed_str.LexedStr.intersperse_trivia.Goals as goal

pub loop-step-preserved : goal.loop-step-preserved
loop-step-preserved g c =
    let done = c.loop-step.invariant.done in
    let step = owned_step_of c.in-Some.step in
    let gives = c.in-Some.ensures.steps in
    record {
      all = gives.1.0 ∙ c.loop-step.invariant.all;
      done = (
        done.0 ++ step ∷ [],
        append_assoc done.0 (step ∷ []) c.next.new.self.steps ∙ (ap (λ steps. done.0 ++ steps) (sym gives.0) ∙ done.1),
        λ before stood. subst (g.S.StepSink.stands_after c.step.new.self) (append_assoc before done.0 (step ∷ [])) (c.in_ok-step.ensures (before ++ done.0) (done.2 before stood)),
      );
    }
