use Rattle.std.proofs.Common.{◌∙◌, arith, ap, sym}
use Rattle.squawk_output.specs.StepViews.{step_of}
use Rattle.squawk_table.specs.SinkViews.{behind_pending}
use Rattle.squawk_table.proofs.NextStep.{AtHand, at_hand, gives_trivia, CanGoOn-trivia, has_tokens, gives_step, CanGoOn-step, progress}
use Rattle.squawk_table.proofs.shortcuts.str_steps.StrStepsIterator.next.Goals as goal
use Rattle.squawk_table.proofs.shortcuts.str_steps.StrStepsIterator.next.Goals.{After-has_trivia_before, in-Some, in-None+in-Some-next}

hand : (c : After-has_trivia_before)
    → AtHand c.args.self.now c.match-take.self-inside.table.now c.match-take.self-inside.raw c.match-take.self-inside.end c.match-take.self-inside.depth c.match-take.self-inside.pending (step_of c.match-take.step) c.match-take.self-inside.steps
hand c =
    let s = c.self.inside in
    let at = at_hand c.args.self.now s.table.now s.raw s.end s.depth s.pending s.steps in
    elim c.match-take.branch [
      | in-Some w ↦
          let waits = sym c.take.ensures.value ∙ w.in-Some.is in
          rw (w.self-inside-is, w.step-is, c.take.ensures.after) (at w.in-Some.step s.steps c.self.view_is c.self.invariant (ap (λ o. behind_pending o s.steps) waits))
      | in-None+in-Some-next w ↦
          let none = sym c.take.ensures.value ∙ w.in-None.is in
          rw (w.self-inside-is, w.step-is, c.take.ensures.after)
          (at w.in-Some-next.step w.next.new.self c.self.view_is c.self.invariant (ap (λ o. behind_pending o s.steps) none ∙ w.in-Some-next.ensures.steps))
    ]

pub overflow_add-self : goal.overflow_add-self
overflow_add-self c =
    let at = hand (goal.at.overflow_add-self c).After-has_trivia_before in
    let here = c.has_trivia_before.ensures.0 c.if-has_trivia_before.true in
    omega (arith, at.can.few, here.0)

-- ---- trivia

pub invariant_of-self-then-has_trivia_before : goal.invariant_of-self-then-has_trivia_before
invariant_of-self-then-has_trivia_before c =
    let s = c.match-take.self-inside in
    let at = hand (goal.at.invariant_of-self-then-has_trivia_before c).After-has_trivia_before in
    let here = c.has_trivia_before.ensures.0 c.if-has_trivia_before.true in
    (at.end, CanGoOn-trivia s.table.now s.raw s.depth (step_of c.match-take.step) s.steps here at.can)

pub returns-then-has_trivia_before-clause-steps : goal.returns-then-has_trivia_before-clause-steps
returns-then-has_trivia_before-clause-steps c =
    let s = c.match-take.self-inside in
    let at = hand (goal.at.returns-then-has_trivia_before-clause-steps c).After-has_trivia_before in
    let here = c.has_trivia_before.ensures.0 c.if-has_trivia_before.true in
    rw (at.walk, c.raw_step-trivia.ensures) (gives_trivia s.table.now s.raw s.depth (step_of c.match-take.step) s.steps here)

pub returns-then-has_trivia_before-clause-goes : goal.returns-then-has_trivia_before-clause-goes
returns-then-has_trivia_before-clause-goes c = progress c.args.self.now _ c.raw_step-trivia.result _ (returns-then-has_trivia_before-clause-steps c).0

-- ---- the step

pub str_step-given-requires-clause-counted : goal.str_step-given-requires-clause-counted
str_step-given-requires-clause-counted c = (hand (goal.at.str_step-given-requires-clause-counted c).After-has_trivia_before).can.few

pub str_step-given-requires-clause-tokens : goal.str_step-given-requires-clause-tokens
str_step-given-requires-clause-tokens c =
    let s = c.match-take.self-inside in
    let at = hand (goal.at.str_step-given-requires-clause-tokens c).After-has_trivia_before in
    has_tokens s.table.now s.raw s.depth (step_of c.match-take.step) s.steps (λ here. let e = c.has_trivia_before.ensures.1 here in cc) at.can

pub invariant_of-self-2 : goal.invariant_of-self-2
invariant_of-self-2 c =
    let s = c.match-take.self-inside in
    let at = hand (goal.at.invariant_of-self-2 c).After-has_trivia_before in
    rw (at.none, c.str_step-given.ensures.raw, c.depth_behind-depth.ensures)
    (at.end, CanGoOn-step s.table.now s.raw s.depth (step_of c.match-take.step) s.steps (λ here. let e = c.has_trivia_before.ensures.1 here in cc) at.can)

pub returns-clause-steps : goal.returns-clause-steps
returns-clause-steps c =
    let s = c.match-take.self-inside in
    let at = hand (goal.at.returns-clause-steps c).After-has_trivia_before in
    rw (at.walk, at.none, c.str_step-given.ensures.step, c.str_step-given.ensures.raw, c.depth_behind-depth.ensures)
    (gives_step s.table.now s.raw s.depth (step_of c.match-take.step) s.steps (λ here. let e = c.has_trivia_before.ensures.1 here in cc) at.can)

pub returns-clause-goes : goal.returns-clause-goes
returns-clause-goes c = progress c.args.self.now _ c.str_step-given.result.0 _ (returns-clause-steps c).0
