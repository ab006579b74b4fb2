use Rattle.std.proofs.Common.{rules, ◌≡◌, ◌∙◌, ◌+◌, ◌-◌, ◌≤◌, Some, ap, arith, below_more, drop, length, map, subst, sym, take}
use Rattle.std.proofs.lemmas.Grind.{common_steps}
use Rattle.std.proofs.lemmas.List.{length-drop, length-map, length-take-le, take_all}
use Rattle.squawk_output.specs.EventLog.{LinksLead}
use Rattle.squawk_output.specs.StoredEvents.{LeadsOn}
use Rattle.caliperdock_c.specs.Events.{event_of, event_or_finish, log_of, or_finish}
use Rattle.caliperdock_c.proofs.Astray.{all_land, lands_at, lands_here, leads_on}
use Rattle.caliperdock_c.proofs.Unknowns.{first_event}
use Rattle.caliperdock_c.proofs.event.log_of.Goals as goal

pub returns-in-None-clause-refused : goal.returns-in-None-clause-refused
returns-in-None-clause-refused c =
    let messages = c.args.messages.now in
    let events = c.args.events.now in
    let known : map Some (log_of messages events) ≡ map (event_of messages) events = search rules in (
      log_of messages events,
      omega (arith, c.if-events-gt-MOST_EVENTS.false),
      known,
      record {
        within = omega (arith, c.loop-index-test.true, length-map events (event_or_finish messages));
        before = c.loop-index.invariant.land;
        astray = λ lands. let e = (c.lands.ensures messages).1 (lands_here messages events c.loop-index.index _ c.loop-index-test.true lands) in cc;
      },
    )

pub push-requires-clause-leads : goal.push-requires-clause-leads
push-requires-clause-leads c =
    let messages = c.args.messages.now in
    let events = c.args.events.now in
    let behind = take (length events - (c.loop-index.index + 1)) (drop (c.loop-index.index + 1) events) in
    let few : length behind ≤ 2147483648 = omega (
      arith,
      c.if-events-gt-MOST_EVENTS.false,
      length-drop (c.loop-index.index + 1) events,
      length-take-le (length events - (c.loop-index.index + 1)) (drop (c.loop-index.index + 1) events),
    ) in
    subst LeadsOn
    (sym (ap or_finish (sym c.in-Some-2.is ∙ c.in_ok-event.ensures)))
    (leads_on _ messages behind ((c.lands.ensures messages).0 c.if-not-lands.false) few)

pub returns-in-None-2-clause-refused : goal.returns-in-None-2-clause-refused
returns-in-None-2-clause-refused c = (
  omega (arith, c.if-events-gt-MOST_EVENTS.false),
  first_event c.args.messages.now c.args.events.now c.loop-index.index _ (log_of c.args.messages.now (take c.loop-index.index c.args.events.now))
      c.loop-index-test.true c.loop-index.invariant.known (sym c.in-None-2.is ∙ c.in_ok-event.ensures),
)

pub loop-index-preserved : goal.loop-index-preserved
loop-index-preserved c =
    let messages = c.args.messages.now in
    let events = c.args.events.now in
    let i = c.loop-index.index in
    let known : map Some (log_of messages (take (i + 1) events)) ≡ map (event_of messages) (take (i + 1) events) = grind (arith, common_steps) in
    let kept : c.push.new.self ≡ log_of messages (take (i + 1) events) = grind (arith, common_steps) in
    record {
      known = known;
      kept = kept;
      land = below_more _ _ c.loop-index.invariant.land
          (lands_at messages events i _ c.loop-index-test.true ((c.lands.ensures messages).0 c.if-not-lands.false));
    }

pub returns-clause-links : goal.returns-clause-links
returns-clause-links c =
    subst LinksLead (sym (c.loop-index.invariant.kept ∙ ap (log_of c.args.messages.now) (take_all c.loop-index.index c.args.events.now c.loop-index-test.false)))
    (all_land c.args.messages.now c.args.events.now (λ k lt. c.loop-index.invariant.land k (omega (arith, c.loop-index-test.false, lt))))
