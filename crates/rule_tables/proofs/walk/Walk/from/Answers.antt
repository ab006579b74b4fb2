use Rattle.std.proofs.Common.{◌≡◌, inl, inr, refl, subst}
use Rattle.rule_tables.specs.Places.{Sees}
use Rattle.rule_tables.specs.Walks.{plan_of}
use Rattle.rule_tables.specs.declared.place.Place.{Place}
use Rattle.rule_tables.proofs.Closing.{first_by, reached_then}
use Rattle.rule_tables.proofs.Walking.{if_ok}
use Rattle.rule_tables.proofs.walk.Walk.from.Goals as goal

pub returns-clause-ok : goal.returns-clause-ok
returns-clause-ok c =
    if_ok
    (λ places first.
    first_by (plan_of c.args.map.now) c.push.new.self _ _ places.items
    (reached_then (plan_of c.args.map.now) _ _ (λ q. ⊥) (λ q. q ≡ c.args.place) c.in_ok-begin.ensures.ok c.in_ok-push.ensures) first
    (λ p word such sees. elim such [ inl none ↦ absurd none | inr e ↦ subst (λ (x : Place). Sees (plan_of c.args.map.now) x word) e sees ])
    (λ kind word sees. (c.args.place, inr refl, sees)))
    c.finish.result c.finish.ensures.ok
