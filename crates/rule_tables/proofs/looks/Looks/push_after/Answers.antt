use Rattle.std.proofs.Common.{rules, ◌≡◌, List, ◌∷◌, inl, true, subst}
use Rattle.squawk_kinds.specs.TokenSets.{has}
use Rattle.rule_tables.specs.Places.{SeesFrom}
use Rattle.rule_tables.specs.Walks.{AreFirst, plan_of}
use Rattle.rule_tables.specs.declared.place.Place.{Place}
use Rattle.rule_tables.proofs.Listing.{strand_at}
use Rattle.rule_tables.proofs.looks.Looks.push_after.Goals as goal

pub returns-in_ok-push-clause-ok : goal.returns-in_ok-push-clause-ok
returns-in_ok-push-clause-ok c =
    let holds : has c.args.strand.now.kinds c.args.kind ≡ true = search rules in
    inl (
      holds,
      c.strand_of.result,
      strand_at (plan_of c.args.map.now) _ c.args.strand.now.row c.strand_of.result c.in_ok-places.places.items c.strand_of.ensures.row c.strand_of.ensures.is c.strand_of.ensures.places
          (subst (λ (xs : List Place). AreFirst (plan_of c.args.map.now) (λ word. SeesFrom (plan_of c.args.map.now) xs (c.args.kind ∷ word)) c.in_ok-places.places.items) c.deref.ensures.value c.in_ok-places.ensures.ok),
      c.in_ok-push.ensures,
    )
