use Rattle.std.proofs.Common.{◌≡◌, ◌∙◌, Some, ap, inl, inr, true, refl, get_or, slice_get, subst, sym}
use Rattle.std.proofs.lemmas.Option.{slice_get-get_or}
use Rattle.rule_tables.specs.Places.{Sees, leads_as}
use Rattle.rule_tables.specs.Walks.{AreFirst, plan_of}
use Rattle.rule_tables.specs.declared.place.Place.{Place}
use Rattle.rule_tables.proofs.Listing.{strand_at}
use Rattle.rule_tables.proofs.looks.Looks.push_way.Goals as goal

pub returns-in_ok-push-clause-ok : goal.returns-in_ok-push-clause-ok
returns-in_ok-push-clause-ok c =
    let here : slice_get c.args.map.now.rows.now c.args.row ≡ Some (get_or c.args.map.now.rows.now c.args.row c.index-map-row.result) = slice_get-get_or c.args.map.now.rows.now c.args.row _ c.requires in
    let leads : leads_as c.args.way (slice_get c.args.map.now.rows.now c.args.row) ≡ true = ap (leads_as c.args.way) here ∙ sym c.leads_as.ensures ∙ c.if-leads_as.true in
    inl (
      leads,
      c.strand_of.result,
      strand_at (plan_of c.args.map.now) _ c.args.row c.strand_of.result c.in_ok-places.places.items c.strand_of.ensures.row c.strand_of.ensures.is c.strand_of.ensures.places
          (subst (λ (p : Place). AreFirst (plan_of c.args.map.now) (Sees (plan_of c.args.map.now) p) c.in_ok-places.places.items) c.led_to.ensures c.in_ok-places.ensures.ok),
      c.in_ok-push.ensures,
    )

pub returns-else-leads_as-clause-ok : goal.returns-else-leads_as-clause-ok
returns-else-leads_as-clause-ok c =
    let here : slice_get c.args.map.now.rows.now c.args.row ≡ Some (get_or c.args.map.now.rows.now c.args.row c.index-map-row.result) = slice_get-get_or c.args.map.now.rows.now c.args.row _ c.requires in
    inr (ap (leads_as c.args.way) here ∙ sym c.leads_as.ensures ∙ c.if-leads_as.false, refl)
