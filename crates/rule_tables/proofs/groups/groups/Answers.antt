use Rattle.std.proofs.Common.{◌≡◌, ℕ, List, Some, length, slice_get, arith, refl, subst}
use Rattle.std.proofs.lemmas.Option.{slice_get_read}
use Rattle.rule_tables.specs.Looks.{AreAlike}
use Rattle.rule_tables.specs.Strands.{AreGroupsOn}
use Rattle.rule_tables.specs.Walks.{plan_of}
use Rattle.rule_tables.specs.declared.place.Place.{Place}
use Rattle.rule_tables.proofs.Cuts.{groups_first, groups_more, groups_none}
use Rattle.rule_tables.proofs.groups.groups.Goals as goal

pub returns-then-is_empty : goal.returns-then-is_empty
returns-then-is_empty c = groups_none (plan_of c.args.map.now) c.args.strands.now (length c.args.strands.now) c.args.set c.new-groups.result.items c.new-groups.ensures.items (c.is_empty.ensures c.if-is_empty.true)

pub loop-strand-init : goal.loop-strand-init
loop-strand-init c = groups_first (plan_of c.args.map.now) c.args.strands.now c.args.set c.push.new.list.items (rw c.new-groups.ensures.items at c.in_ok-push.ensures)

pub loop-strand-preserved : goal.loop-strand-preserved
loop-strand-preserved c =
    let here : slice_get c.args.strands.now c.loop-strand.strand-index ≡ Some c.strand-item.result = slice_get_read c.args.strands.now _ c.loop-strand.strand-index _ refl c.loop-strand-test.true c.strand-item.is in
    groups_more (plan_of c.args.map.now) c.args.strands.now c.loop-strand.strand-index c.args.set c.loop-strand.groups.items c.in_ok-groups.groups.items c.strand-item.result here c.loop-strand.invariant
    (subst (λ (places : List Place). AreAlike (plan_of c.args.map.now) places (length places) c.loop-strand.groups.items c.in_ok-groups.groups.items) c.deref.ensures.value c.in_ok-groups.ensures)

pub returns : goal.returns
returns c =
    let all : c.loop-strand.strand-index ≡ length c.args.strands.now = omega (arith, c.loop-strand-test.false, c.loop-strand.auto.strand-index-end) in
    subst (λ (n : ℕ). AreGroupsOn (plan_of c.args.map.now) c.args.strands.now n c.args.set c.loop-strand.groups.items) all c.loop-strand.invariant
