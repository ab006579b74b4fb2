use Rattle.std.proofs.lemmas.List.{map-set}
use Rattle.std.proofs.lemmas.List.Elements.{All-set}
use Rattle.std.proofs.Common.{◌+◌, ap, arith}
use Rattle.squawk_output.specs.StoredEvents.{HasEventText, event_of, link_of}
use Rattle.squawk_output.proofs.Follows.{Follows-next, chain-shorter}
use Rattle.squawk_output.proofs.StoredEvents.{landed, landed_starting, length-log_in, link_of-some, link_within}
use Rattle.squawk_output.proofs.StoredVisits.{follows_here, linked_fits, linked_has_room, linked_visits}
use Rattle.squawk_output.proofs.Visits.{counted-next}
use Rattle.squawk_output.proofs.pass.visit_linked.Goals as goal

pub loop-next-init : goal.loop-next-init
loop-next-init c =
    let texts = c.args.builder.now.texts in (
      follows_here texts _ _ c.requires.within _ _ c.index-event.ensures c.requires.linked c.kind.result c.distance-next.result (c.kind.ensures texts) (c.distance-next.ensures texts)
          c.requires.links _ c.push.new.self.items c.requires.none c.in_ok-push.ensures.items,
      c.requires.texts,
      rw (c.in_ok-push.ensures.items, c.requires.none) c.turn.ensures,
    )

pub overflow_add-at : goal.overflow_add-at
overflow_add-at c =
    let texts = c.args.builder.now.texts in
    omega (
      arith,
      link_within texts c.loop-next.events.items c.loop-next.at c.loop-next.next c.loop-next-test.true c.loop-next.invariant.0.lands,
      c.loop-next.invariant.0.same_length,
      length-log_in texts c.loop-next.events.items,
      length-log_in texts c.args.events.now.items,
      c.requires.few,
    )

pub index-event-requires-in-loop-next : goal.index-event-requires-in-loop-next
index-event-requires-in-loop-next c =
    omega (arith, link_within c.args.builder.now.texts c.loop-next.events.items c.loop-next.at c.loop-next.next c.loop-next-test.true c.loop-next.invariant.0.lands)

pub kind-kind-requires : goal.kind-kind-requires
kind-kind-requires c =
    landed_starting c.args.builder.now.texts c.loop-next.events.items c.loop-next.at c.loop-next.next c.loop-next-test.true c.loop-next.invariant.0.lands _ _ c.index-event-in-loop-next.ensures

pub distance-next-requires-in-loop-next : goal.distance-next-requires-in-loop-next
distance-next-requires-in-loop-next c =
    landed_starting c.args.builder.now.texts c.loop-next.events.items c.loop-next.at c.loop-next.next c.loop-next-test.true c.loop-next.invariant.0.lands _ _ c.index-event-in-loop-next.ensures

pub index_mut-requires : goal.index_mut-requires
index_mut-requires c =
    omega (arith, link_within c.args.builder.now.texts c.loop-next.events.items c.loop-next.at c.loop-next.next c.loop-next-test.true c.loop-next.invariant.0.lands)

pub loop-next-smaller : goal.loop-next-smaller
loop-next-smaller c =
    let texts = c.args.builder.now.texts in
    let next = c.loop-next.next in
    let more = c.loop-next-test.true in
    rw (map-set (event_of texts) c.loop-next.events.items (c.loop-next.at + next) c.tombstone.result)
    (chain-shorter _ _ _ _ _ c.loop-next.at next (link_of next) (link_of-some next more) c.loop-next.invariant.0 c.kind-kind.result (link_of c.distance-next-in-loop-next.result) _ _
    (landed texts _ c.loop-next.at next more c.loop-next.invariant.0.lands c.kind-kind.result c.distance-next-in-loop-next.result _ _ c.index-event-in-loop-next.ensures (c.kind-kind.ensures texts)
    (c.distance-next-in-loop-next.ensures texts))
    (ap (event_of texts) c.tombstone.ensures))

pub loop-next-preserved : goal.loop-next-preserved
loop-next-preserved c =
    let texts = c.args.builder.now.texts in
    let next = c.loop-next.next in
    let more = c.loop-next-test.true in (
      rw (map-set (event_of texts) c.loop-next.events.items (c.loop-next.at + next) c.tombstone.result)
          (Follows-next _ _ _ _ _ c.loop-next.at next (link_of next) (link_of-some next more) c.loop-next.invariant.0 c.kind-kind.result (link_of c.distance-next-in-loop-next.result) _ _
          (landed texts _ c.loop-next.at next more c.loop-next.invariant.0.lands c.kind-kind.result c.distance-next-in-loop-next.result _ _ c.index-event-in-loop-next.ensures (c.kind-kind.ensures texts)
          (c.distance-next-in-loop-next.ensures texts))
          (ap (event_of texts) c.tombstone.ensures) c.push-in-loop-next.new.self.items c.in_ok-push-2.ensures.items),
      All-set (HasEventText texts) c.loop-next.events.items (c.loop-next.at + next) c.tombstone.result (rw c.tombstone.ensures tt) c.loop-next.invariant.1,
      counted-next c.args.builder.now c.loop-next.builder c.turn-in-loop-next.new.self _ _ c.kind-kind.result c.loop-next.invariant.2 c.turn-in-loop-next.ensures
          c.in_ok-push-2.ensures.items,
    )

pub enter_all-requires-clause-turns : goal.enter_all-requires-clause-turns
enter_all-requires-clause-turns c =
    let texts = c.args.builder.now.texts in
    linked_fits texts _ _ c.requires.within _ _ c.index-event.ensures c.requires.linked c.kind.result c.distance-next.result (c.kind.ensures texts) (c.distance-next.ensures texts)
    c.requires.links _ c.push.new.self.items c.requires.none c.in_ok-push.ensures.items c.loop-next.events.items _ c.loop-next.at c.loop-next.next c.loop-next-test.false c.loop-next.invariant.0
    c.args.builder.now _ c.loop-next.invariant.2 c.requires.few c.requires.turns

pub enter_all-requires-clause-room : goal.enter_all-requires-clause-room
enter_all-requires-clause-room c =
    let texts = c.args.builder.now.texts in
    linked_has_room texts _ _ c.requires.within _ _ c.index-event.ensures c.requires.linked c.kind.result c.distance-next.result (c.kind.ensures texts) (c.distance-next.ensures texts)
    c.requires.links _ c.push.new.self.items c.requires.none c.in_ok-push.ensures.items c.loop-next.events.items _ c.loop-next.at c.loop-next.next c.loop-next-test.false c.loop-next.invariant.0
    c.args.builder.now _ c.loop-next.invariant.2 c.requires.room

pub returns-clause-visits : goal.returns-clause-visits
returns-clause-visits c =
    let texts = c.args.builder.now.texts in
    linked_visits texts _ _ c.requires.within _ _ c.index-event.ensures c.requires.linked c.kind.result c.distance-next.result (c.kind.ensures texts) (c.distance-next.ensures texts)
    c.requires.links _ c.push.new.self.items c.requires.none c.in_ok-push.ensures.items c.loop-next.events.items _ c.loop-next.at c.loop-next.next c.loop-next-test.false c.loop-next.invariant.0
    c.args.builder.now _ c.loop-next.invariant.2 c.enter_all.new.builder c.enter_all.ensures.builder
