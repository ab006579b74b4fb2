use Rattle.std.proofs.Common.{rules, ◌≡◌, ◌<◌, ◌-◌, ℕ, List, ◌∷◌, None, Some, length, slice_get, arith, refl, sym, subst}
use Rattle.std.proofs.lemmas.Option.{slice_get_read, slice_get_within}
use Rattle.squawk_kinds.specs.declared.token_set.TokenSet.{TokenSet}
use Rattle.rule_tables.specs.Strands.{AreDecidedBy, AreGroupsOn, AreListed, SeesOn}
use Rattle.rule_tables.specs.Walks.{plan_of}
use Rattle.rule_tables.specs.declared.strands.Strand.{Strand}
use Rattle.rule_tables.proofs.Longer.{extends_then}
use Rattle.rule_tables.proofs.NoKinds.{token_in}
use Rattle.rule_tables.proofs.Shares.{after_group, decided_few, decided_groups, decided_last, decided_more, told_first_of, told_group, told_on}
use Rattle.rule_tables.proofs.Walking.{if_ok}
use Rattle.rule_tables.proofs.looks.Looks.+decide.Goals as goal

pub decide-returns-then-strands-lt2-clause-ok : goal.decide-returns-then-strands-lt2-clause-ok
decide-returns-then-strands-lt2-clause-ok t c =
    decided_few (plan_of c.args.map.now) c.args.strands.now c.requires.strands c.args.parts.now c.if-strands-lt2.true (4 - c.args.trail.now.depth) (omega (arith, c.requires.depth)) None

pub decide-returns-then-trail-ge4-clause-ok : goal.decide-returns-then-trail-ge4-clause-ok
decide-returns-then-trail-ge4-clause-ok t c =
    decided_last (plan_of c.args.map.now) c.args.strands.now c.requires.strands c.args.parts.now c.args.trail.now c.in_ok-found.found c.in_ok-found.ensures.ok (4 - c.args.trail.now.depth) (omega (arith, c.requires.depth))

pub decide-returns-then-trail-ge4-clause-told : goal.decide-returns-then-trail-ge4-clause-told
decide-returns-then-trail-ge4-clause-told t c =
    told_on (plan_of c.args.map.now) c.args.strands.now c.requires.strands c.args.parts.now c.args.trail.now (omega (arith, c.requires.depth, c.if-trail-ge4.true)) c.in_ok-found.found.undecided c.in_ok-found.ensures.ok.told

pub decide-decide_group-requires : goal.decide-decide_group-requires
decide-decide_group-requires t c =
    let here : slice_get c.deref-group-items.result.now c.loop-group.group-index ≡ Some c.group-item.result = slice_get_read c.deref-group-items.result.now _ c.loop-group.group-index _ refl c.loop-group-test.true c.group-item.is in
    let group : slice_get c.in_ok-groups.groups.items c.loop-group.group-index ≡ Some c.group-item.result = rw c.deref-group-items.ensures.value at here in (
      search rules,
      (
        omega (arith, c.requires.depth, c.if-trail-ge4.false),
        (
          c.requires.strands,
          λ i s is. c.in_ok-groups.ensures.alike c.loop-group.group-index c.group-item.result group i s (slice_get_within c.args.strands.now i s is) is,
        ),
      ),
    )

pub decide-loop-group-preserved : goal.decide-loop-group-preserved
decide-loop-group-preserved t c =
    let here : slice_get c.deref-group-items.result.now c.loop-group.group-index ≡ Some c.group-item.result = slice_get_read c.deref-group-items.result.now _ c.loop-group.group-index _ refl c.loop-group-test.true c.group-item.is in
    record {
      keeps = extends_then c.loop-group.invariant.keeps c.in_ok-other.ensures.keeps;
      decided = decided_more (plan_of c.args.map.now) c.args.strands.now c.requires.strands c.args.parts.now c.deref-group-items.result.now c.loop-group.group-index c.group-item.result here (3 - c.args.trail.now.depth) c.loop-group.undecided c.in_ok-other.other
          c.first_open-undecided.result c.first_open-undecided.ensures.up c.in_ok-other.ensures.ok c.loop-group.invariant.decided;
      told = told_first_of (plan_of c.args.map.now) c.args.strands.now c.requires.strands c.args.parts.now (SeesOn (plan_of c.args.map.now) c.args.strands.now) c.args.trail.now c.loop-group.undecided c.in_ok-other.other c.first_open-undecided.result
          c.first_open-undecided.ensures.one c.loop-group.invariant.told c.in_ok-other.ensures.told;
    }

pub decide-returns-clause-ok : goal.decide-returns-clause-ok
decide-returns-clause-ok t c =
    decided_groups (plan_of c.args.map.now) c.args.strands.now c.requires.strands c.args.parts.now c.args.trail.now c.in_ok-found.found (omega (arith, c.requires.depth, c.if-trail-ge4.false)) c.in_ok-found.ensures.ok c.deref-group-items.result.now
    (subst (λ (xs : List TokenSet). AreGroupsOn (plan_of c.args.map.now) c.args.strands.now (length c.args.strands.now) c.in_ok-found.found.shared xs) (sym c.deref-group-items.ensures.value) c.in_ok-groups.ensures) (3 - c.args.trail.now.depth) (4 - c.args.trail.now.depth)
    (omega (arith, c.requires.depth, c.if-trail-ge4.false)) c.loop-group.undecided
    (λ i group is. c.loop-group.invariant.decided i (let lt : i < length c.deref-group-items.result.now = slice_get_within c.deref-group-items.result.now i group is in omega (arith, lt, c.loop-group-test.false)) group is)

pub decide_group-then-requires-clause-token : goal.decide_group-then-requires-clause-token
decide_group-then-requires-clause-token t c = token_in c.args.group c.in-Some.kind c.in-Some.ensures.some

pub decide_group-decide-requires : goal.decide_group-decide-requires
decide_group-decide-requires t c =
    let listed : AreListed (plan_of c.args.map.now) (λ row word. SeesOn (plan_of c.args.map.now) c.args.strands.now row (c.in-Some.kind ∷ word)) c.deref.result.now =
    subst (λ (xs : List Strand). AreListed (plan_of c.args.map.now) (λ row word. SeesOn (plan_of c.args.map.now) c.args.strands.now row (c.in-Some.kind ∷ word)) xs) (sym c.deref.ensures.value) c.in_ok-after.ensures.ok in (
      search rules,
      (omega (arith, c.requires.depth, c.then.ensures.depth), listed.are),
    )

pub decide_group-returns-clause-ok : goal.decide_group-returns-clause-ok
decide_group-returns-clause-ok t c =
    let listed : AreListed (plan_of c.args.map.now) (λ row word. SeesOn (plan_of c.args.map.now) c.args.strands.now row (c.in-Some.kind ∷ word)) c.deref.result.now =
    subst (λ (xs : List Strand). AreListed (plan_of c.args.map.now) (λ row word. SeesOn (plan_of c.args.map.now) c.args.strands.now row (c.in-Some.kind ∷ word)) xs) (sym c.deref.ensures.value) c.in_ok-after.ensures.ok in
    if_ok
    (λ found decided.
    after_group (plan_of c.args.map.now) c.args.strands.now c.requires.strands c.args.parts.now c.args.group c.in-Some.kind c.in-Some.ensures.some c.requires.alike c.deref.result.now listed (3 - c.args.trail.now.depth) (omega (arith, c.requires.depth)) found
    (subst (λ (n : ℕ). AreDecidedBy (plan_of c.args.map.now) c.args.parts.now (SeesOn (plan_of c.args.map.now) c.deref.result.now) n found) (let e : 4 - c.then.result.depth ≡ 3 - c.args.trail.now.depth = omega (arith, c.then.ensures.depth) in e) decided))
    c.decide.result c.decide.ensures.ok

pub decide_group-returns-clause-told : goal.decide_group-returns-clause-told
decide_group-returns-clause-told t c =
    let listed : AreListed (plan_of c.args.map.now) (λ row word. SeesOn (plan_of c.args.map.now) c.args.strands.now row (c.in-Some.kind ∷ word)) c.deref.result.now =
    subst (λ (xs : List Strand). AreListed (plan_of c.args.map.now) (λ row word. SeesOn (plan_of c.args.map.now) c.args.strands.now row (c.in-Some.kind ∷ word)) xs) (sym c.deref.ensures.value) c.in_ok-after.ensures.ok in
    if_ok
    (λ found told. told_group (plan_of c.args.map.now) c.args.strands.now c.requires.strands c.args.parts.now c.in-Some.kind c.deref.result.now listed c.args.trail.now c.then.result c.requires.depth c.then.ensures.depth c.then.ensures.kinds found told)
    c.decide.result c.decide.ensures.told
