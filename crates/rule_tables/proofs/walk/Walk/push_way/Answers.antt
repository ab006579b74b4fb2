use Rattle.std.proofs.Common.{◌≡◌, ◌∙◌, true, false, Some, slice_get, get_or, sym}
use Rattle.std.proofs.lemmas.Option.{slice_get-get_or}
use Rattle.rule_tables.specs.Places.{leads_as}
use Rattle.rule_tables.proofs.Walking.{goes_as, goes_none, went_as}
use Rattle.rule_tables.proofs.walk.Walk.push_way.Goals as goal

pub returns-then-leads_as : goal.returns-then-leads_as
returns-then-leads_as c =
    let row : slice_get c.args.map.now.rows.now c.args.row ≡ Some (get_or c.args.map.now.rows.now c.args.row c.index-map-row.result) = slice_get-get_or c.args.map.now.rows.now c.args.row _ c.requires in
    let leads : leads_as c.args.way (slice_get c.args.map.now.rows.now c.args.row) ≡ true = rw row (sym c.leads_as.ensures ∙ c.if-leads_as.true) in
    went_as _ _ (λ q. q ≡ c.led_to.result) _ _ (λ q e. (leads, e ∙ c.led_to.ensures)) (λ q such. such.1 ∙ sym c.led_to.ensures) c.push.ensures

pub returns-else-leads_as : goal.returns-else-leads_as
returns-else-leads_as c =
    let row : slice_get c.args.map.now.rows.now c.args.row ≡ Some (get_or c.args.map.now.rows.now c.args.row c.index-map-row.result) = slice_get-get_or c.args.map.now.rows.now c.args.row _ c.requires in
    let leads : leads_as c.args.way (slice_get c.args.map.now.rows.now c.args.row) ≡ false = rw row (sym c.leads_as.ensures ∙ c.if-leads_as.false) in
    goes_as (λ q none. absurd none) (λ q such lt. let is : leads_as c.args.way (slice_get c.args.map.now.rows.now c.args.row) ≡ true = such.0 in absurd cc) (goes_none c.args.self.now)
