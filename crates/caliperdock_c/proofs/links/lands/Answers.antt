use Rattle.std.proofs.Common.{◌∙◌, arith, subst, sym}
use Rattle.std.proofs.lemmas.Bool.{ne_eqb}
use Rattle.squawk_output.specs.EventLog.{Lands}
use Rattle.caliperdock_c.specs.Events.{log_of}
use Rattle.caliperdock_c.proofs.Starts.{lands_unlinked, lands_untagged, linked}
use Rattle.caliperdock_c.proofs.links.lands.Goals as goal
use Rattle.caliperdock_c.proofs.links.lands.Goals.{then-event-ne0-via-then-event-ne0, then-event-ne0-via-else-event-ne0+then-event-eq0}

pub returns-then-event-ne0 : goal.returns-then-event-ne0
returns-then-event-ne0 c = λ messages.
    let behind = log_of messages c.args.behind.now in (
      λ _. elim c.then-event-ne0.branch [
        | then-event-ne0-via-then-event-ne0 w ↦ lands_untagged messages c.args.event.now behind (ne_eqb c.args.event.now.tag 0 w.if-event-ne0.true)
        | then-event-ne0-via-else-event-ne0+then-event-eq0 w ↦ lands_unlinked messages c.args.event.now behind w.if-event-ne0.false w.if-event-eq0.true
      ],
      λ _. cc,
    )

pub overflow_sub-event : goal.overflow_sub-event
overflow_sub-event c = omega (arith, c.if-event-eq0.false)

pub is_start_at-requires : goal.is_start_at-requires
is_start_at-requires c = tt

pub returns : goal.returns
returns c = λ messages.
    let behind = log_of messages c.args.behind.now in
    let is = linked messages c.args.event.now c.if-event-ne0.false (ne_eqb c.args.event.now.a 0 c.if-event-eq0.false) in (
      λ t. subst (λ e. Lands e behind) (sym is) (omega (arith, c.if-event-eq0.false), sym (c.is_start_at.ensures messages) ∙ t),
      λ lands. c.is_start_at.ensures messages ∙ (subst (λ e. Lands e behind) is lands).1,
    )
