use Rattle.std.proofs.Common.{ap, arith}
use Rattle.squawk_output.proofs.StoredEvents.{length-log_in}
use Rattle.squawk_output.proofs.StoredVisits.{passes-end, passes-next, passes-room, passes-to}
use Rattle.squawk_output.proofs.pass.pass.Goals as goal

pub visit_plain-index-requires-clause-room : goal.visit_plain-index-requires-clause-room
visit_plain-index-requires-clause-room c = rw c.deref.ensures.value (passes-room _ _ _ _ _ _ c.loop-index.invariant.0)

pub visit_linked-requires-clause-room : goal.visit_linked-requires-clause-room
visit_linked-requires-clause-room c =
    passes-room _ _ _ _ _ _ (passes-to _ _ _ _ _ _ c.loop-index.invariant.0 c.deref.result.now c.visit_plain-index.new.builder c.visit_plain-index.result c.deref.ensures.value c.visit_plain-index.ensures.visits)

pub loop-index-preserved-then-index-len : goal.loop-index-preserved-then-index-len
loop-index-preserved-then-index-len c =
    let texts = c.in_ok-builder.builder.texts in
    let ran = passes-to _ _ _ _ _ _ c.loop-index.invariant.0 c.deref.result.now c.visit_plain-index.new.builder c.visit_plain-index.result c.deref.ensures.value c.visit_plain-index.ensures.visits in
    let list = passes-next _ _ _ _ _ _ ran _ _ _ c.in_ok-visit_linked.ensures.visits c.in_ok-visit_linked.ensures.texts c.in_ok-visit_linked.ensures.none in (
      list,
      omega (
        arith,
        c.if-index-len.true,
        list.passes.same_length,
        ran.passes.same_length,
        length-log_in texts c.loop-index.events.items,
        length-log_in texts c.visit_linked.new.events.items,
      ),
    )

pub loop-index-preserved : goal.loop-index-preserved
loop-index-preserved c = (
  passes-to _ _ _ _ _ _ c.loop-index.invariant.0 c.deref.result.now c.visit_plain-index.new.builder c.visit_plain-index.result c.deref.ensures.value c.visit_plain-index.ensures.visits,
  omega (arith, c.visit_plain-index.ensures.visits.within, c.deref.ensures.len, length-log_in c.loop-index.builder.texts c.deref.result.now),
)

pub returns : goal.returns
returns c =
    let texts = c.in_ok-builder.builder.texts in
    let list = c.loop-index.invariant.0 in
    passes-end _ _ _ _ _ _ list
    (omega (arith, list.passes.same_length, length-log_in texts c.args.events.items, length-log_in texts c.loop-index.events.items))
    c.args.errors.items c.args.recorded c.new.result (ap (λ w. w.texts) c.in_ok-builder.ensures) c.new.ensures
