use Rattle.std.proofs.Common.{◌∙◌, sym, subst}
use Rattle.squawk_script.proofs.Runs.{Stands, ends-at, ends-closed, ends-fails, ends-spent, stands-begin, stands-next}
use Rattle.squawk_script.proofs.run.run_calls.Goals as goal

pub loop-call-init : goal.loop-call-init
loop-call-init c =
    let begin = stands-begin c.args.p.now c.args.calls.now c.requires.fresh c.requires.sound in
    (subst (λ slots. Stands c.args.p.now c.args.calls.now c.args.p.now slots 0) (sym c.in_ok-slots.ensures.items) begin, c.in_ok-slots.ensures.exact ∙ c.requires.markers)

pub loop-call-preserved : goal.loop-call-preserved
loop-call-preserved c = (
  stands-next _ _ _ _ _ _ c.loop-call-test.true c.call-item.is c.loop-call.invariant.0 c.requires.accepted _ _ c.perform.ensures.keeps c.perform.ensures.performs,
  c.perform.ensures.capacity ∙ c.loop-call.invariant.1,
)

pub let_go-requires : goal.let_go-requires
let_go-requires c = ends-spent _ _ _ _ _ c.loop-call-test.false c.loop-call.invariant.0 c.requires.accepted

pub returns-clause-closed : goal.returns-clause-closed
returns-clause-closed c = ends-closed _ _ _ _ _ c.loop-call-test.false c.loop-call.invariant.0 c.requires.accepted

pub returns-clause-leaves : goal.returns-clause-leaves
returns-clause-leaves c = ends-at _ _ _ _ _ c.loop-call-test.false c.loop-call.invariant.0 c.requires.accepted

pub returns-clause-runs : goal.returns-clause-runs
returns-clause-runs c = ends-fails _ _ _ _ _ c.loop-call-test.false c.loop-call.invariant.0 c.requires.accepted
