use Rattle.std.proofs.Common.{◌≡◌, ◌∙◌, Ok, Some, ap, sym}
use Rattle.std.specs.Prelude.{option_map}
use Rattle.serde_json.specs.Find.{as_array}
use Rattle.serde_json.specs.View.{items_view, view}
use Rattle.squawk_document.proofs.Values.{data_list-items_view}
use Rattle.squawk_document.proofs.value.items.Goals as goal

pub returns : goal.returns
returns c =
    let items = c.in_ok-items.items.now.items in
    let is : Some (items_view items) ≡ as_array (view c.args.value.now) = sym (ap (option_map (λ v. items_view v.now.items)) c.in_ok-items.ensures.ok_part) ∙ c.as_array.ensures in
    rw (← is, c.as_slice.ensures.value) (ap Ok (data_list-items_view items))
