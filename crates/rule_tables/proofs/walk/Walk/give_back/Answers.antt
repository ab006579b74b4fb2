use Rattle.std.proofs.Common.{◌≡◌, inl, inr}
use Rattle.rule_tables.specs.Places.{IsLed}
use Rattle.rule_tables.specs.declared.place.Way.TheVariants as way
use Rattle.rule_tables.specs.declared.place.Place.TheVariants.{End}
use Rattle.rule_tables.proofs.Walking.{goes_as, went_as, went_then}
use Rattle.rule_tables.proofs.walk.Walk.give_back.Goals as goal

pub returns-then-row-map : goal.returns-then-row-map
returns-then-row-map c =
    went_as _ _ _ _ _
    (λ q such. elim such [ inl led ↦ inl led | inr e ↦ inr (c.if-row-map.true, e) ])
    (λ q such. elim such [ inl led ↦ inl led | inr e ↦ inr e.1 ])
    (went_then _ _ _ (IsLed c.args.map.now.rows.now way.Call c.args.row) (λ q. q ≡ End) _ c.in_ok-lead.ensures c.push.ensures)

pub returns-else-row-map : goal.returns-else-row-map
returns-else-row-map c = goes_as (λ q led. inl led) (λ q such lt. elim such [ inl led ↦ led | inr e ↦ absurd (c.if-row-map.false e.0) ]) c.in_ok-lead.ensures
