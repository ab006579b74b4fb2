use Rattle.std.proofs.Common.{List, subst}
use Rattle.std.proofs.lemmas.Option.{slice_get-get_or}
use Rattle.squawk_kinds.specs.declared.token_set.TokenSet.{TokenSet}
use Rattle.rule_tables.specs.Looks.{IsCut}
use Rattle.rule_tables.specs.Walks.{plan_of}
use Rattle.rule_tables.proofs.Cuts.{alike_more}
use Rattle.rule_tables.proofs.groups.cut_all.Goals as goal

pub loop-place-preserved : goal.loop-place-preserved
loop-place-preserved c =
    alike_more (plan_of c.args.map.now) c.args.places.now c.loop-place.place-index c.args.sets.items c.loop-place.groups.items c.in_ok-groups.groups.items _ c.kinds_of.result (slice_get-get_or c.args.places.now c.loop-place.place-index _ c.loop-place-test.true) c.kinds_of.ensures
    (subst (λ (sets : List TokenSet). IsCut sets c.kinds_of.result c.in_ok-groups.groups.items) c.deref.ensures.value c.in_ok-groups.ensures) c.loop-place.invariant
