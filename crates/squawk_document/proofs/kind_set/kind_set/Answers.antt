use Rattle.std.proofs.Common.{◌≡◌, ◌∙◌, [], Ok, ap, drop}
use Rattle.std.specs.Prelude.{map}
use Rattle.std.proofs.lemmas.List.{drop_all}
use Rattle.serde_json.specs.View.{view}
use Rattle.squawk_document.proofs.KindSets.{has-read, no_end}
use Rattle.squawk_document.proofs.kind_set.kind_set.Goals as goal

pub returns-clause-kinds : goal.returns-clause-kinds
returns-clause-kinds c =
    let items = c.in_ok-items.items.now in
    let none_left : drop c.loop-item.item-index items ≡ [] = drop_all c.loop-item.item-index items c.loop-item-test.false in
    rw c.in_ok-items.ensures (has-read c.args.low (map view items) c.from_words.result (ap Ok c.from_words.ensures.words ∙ (rw none_left at c.loop-item.invariant)))

pub returns-clause-no_end : goal.returns-clause-no_end
returns-clause-no_end c above =
    let items = c.in_ok-items.items.now in
    let none_left : drop c.loop-item.item-index items ≡ [] = drop_all c.loop-item.item-index items c.loop-item-test.false in
    no_end c.args.low (map view items) c.from_words.result above (ap Ok c.from_words.ensures.words ∙ (rw none_left at c.loop-item.invariant))
