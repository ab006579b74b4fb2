use Rattle.std.proofs.Common.{◌≡◌, ◌⊎◌, inl, inr}
use Rattle.rule_tables.specs.Places.{IsBefore}
use Rattle.rule_tables.specs.declared.place.Place.TheVariants.{Before, After}
use Rattle.rule_tables.proofs.Walking.{went_as, went_then, went_to}
use Rattle.rule_tables.proofs.walk.Walk.again.Goals as goal

pub returns-in_ok-push-in-Some : goal.returns-in_ok-push-in-Some
returns-in_ok-push-in-Some c =
    went_to _ _ (λ found q. IsBefore found q ⊎ (q ≡ After c.args.row)) _ c.in-Some.ensures
    (went_then _ _ _ (λ q. q ≡ Before c.in-Some.first) (λ q. q ≡ After c.args.row) _ c.in_ok-push-in-Some.ensures c.push-in-Some.ensures)

pub returns-in-None : goal.returns-in-None
returns-in-None c =
    went_to _ _ (λ found q. IsBefore found q ⊎ (q ≡ After c.args.row)) _ c.in-None.ensures
    (went_as _ _ (λ q. q ≡ After c.args.row) _ _ (λ q e. inr e) (λ q some. elim some [ inl none ↦ absurd none | inr e ↦ e ]) c.push-in-None.ensures)
