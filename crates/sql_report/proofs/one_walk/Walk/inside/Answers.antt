use Rattle.std.proofs.Common.{◌≡◌, ◌∙◌, None, Some, [], ◌∷◌, ◌++◌, ap, arith, map, rules, subst, sym}
use Rattle.squawk_table.specs.SinkViews.{owned_step_of}
use Rattle.squawk_table.specs.StrWalk.{StrWalk}
use Rattle.sql_grammar.specs.Parts.{moved_by}
use Rattle.sql_report.specs.OnTheWay.{HasWalked}
use Rattle.sql_report.proofs.HeldSteps.{Holds, all_taken, held_steps, holds_first, holds_next, holds_none}
use Rattle.sql_report.proofs.one_walk.Walk.inside.Goals as goal
use Rattle.sql_report.proofs.one_walk.Walk.inside.Goals.{in-Some-held+in_ok-step, in_default}

pub loop-step-init : goal.loop-step-init
loop-step-init c =
    let walk = c.args.self.now in
    let short = c.requires.short in
    let at = c.requires.at in
    let given = c.into_iter-step-iterator.ensures.into_iter_gives in
    subst (λ (s : StrWalk). Holds c.args.start walk walk s.steps None s.steps) (sym given)
    (holds_none c.args.start walk c.args.steps.steps c.requires.within.0 (omega (arith, short, at)) c.requires.within.1 c.requires.within.2)

pub loop-step-preserved : goal.loop-step-preserved
loop-step-preserved c =
    let start = c.args.start in
    let begun = c.args.self.now in
    let walk = c.loop-step.self in
    let all = c.into_iter-step-iterator.result.steps in
    let rest = c.next.new.self.steps in
    let step = c.in-Some.step in
    let left = subst (Holds start begun walk all c.loop-step.held) c.in-Some.ensures.steps.0 c.loop-step.invariant in
    elim c.match-held.branch [
      | in-Some-held+in_ok-step w ↦
          subst (λ s. Holds start begun s all (Some step) rest) (sym w.self-is)
          (holds_next start begun walk w.step.new.self all w.in-Some-held.before step rest (owned_step_of w.moved.result)
          (subst (λ held. Holds start begun walk all held (owned_step_of step ∷ rest)) w.in-Some-held.is left) w.moved.ensures w.in_ok-step.ensures.same w.in_ok-step.ensures.at
          w.in_ok-step.ensures.walks)
      | in_default w ↦
          subst (λ s. Holds start begun s all (Some step) rest) (sym w.self-is)
          (holds_first start begun walk all step rest (subst (λ held. Holds start begun walk all held (owned_step_of step ∷ rest)) w.in_default.is left))
    ]

pub returns-clause-walks : goal.returns-clause-walks
returns-clause-walks c = λ given done inner last is walked.
    let h = c.loop-step.invariant in
    let iterates = c.into_iter-step-iterator.ensures.into_iter_gives in
    let left : c.loop-step.step-iterator.steps ≡ [] = search rules in
    let same : h.taken ++ (held_steps c.loop-step.held ++ []) ≡ inner ++ last ∷ [] =
    ap (λ xs. h.taken ++ (held_steps c.loop-step.held ++ xs)) (sym left) ∙ (sym h.split ∙ (ap (λ (s : StrWalk). s.steps) iterates ∙ is)) in
    subst (λ xs. HasWalked given c.loop-step.self (done ++ map (moved_by c.args.start) xs)) (all_taken c.loop-step.held h.taken inner last h.none same) (h.walks given done walked)
