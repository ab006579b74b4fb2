use Rattle.std.proofs.Common.{◌≡◌, ℕ, length, subst, arith}
use Rattle.std.proofs.lemmas.Option.{slice_get-get_or}
use Rattle.rule_tables.specs.Walks.{HasReached, plan_of}
use Rattle.rule_tables.proofs.Over.{IsOver, first_over, over_more, over_none}
use Rattle.rule_tables.proofs.Walking.{if_ok}
use Rattle.rule_tables.proofs.walk.Walk.over.Goals as goal

pub loop-place-init : goal.loop-place-init
loop-place-init c = over_none (plan_of c.args.map.now) c.args.places.now c.args.kind _ c.in_ok-begin.ensures.ok

pub loop-place-preserved : goal.loop-place-preserved
loop-place-preserved c =
    over_more (plan_of c.args.map.now) c.args.places.now c.args.kind c.loop-place.place-index c.loop-place.self c.step.new.self _ (slice_get-get_or c.args.places.now c.loop-place.place-index _ c.loop-place-test.true) c.loop-place.invariant c.in_ok-step.ensures

pub returns-clause-ok : goal.returns-clause-ok
returns-clause-ok c =
    let all : c.loop-place.place-index ≡ length c.args.places.now = omega (arith, c.loop-place-test.false, c.loop-place.auto.place-index-end) in
    if_ok
    (λ found first.
    first_over (plan_of c.args.map.now) c.args.places.now c.args.kind c.loop-place.self found.items c.requires (subst (λ (n : ℕ). HasReached (plan_of c.args.map.now) c.loop-place.self (IsOver (plan_of c.args.map.now) c.args.places.now c.args.kind n)) all c.loop-place.invariant) first)
    c.finish.result c.finish.ensures.ok
