use Rattle.std.proofs.Common.{◌≡◌, Ok, drop}
use Rattle.std.specs.Prelude.{map, fold}
use Rattle.serde_json.specs.View.{view}
use Rattle.squawk_document.specs.KindSets.{set_of, with_kind}
use Rattle.squawk_document.specs.Values.{◌>>=◌, each, number_in}
use Rattle.squawk_document.proofs.kind_set.kind_set.Given as goal

abbrev pub invariant-loop-item : goal.invariant-loop-item
invariant-loop-item l = (each (number_in l.low 639) (map view (drop l.item-index l.items)) >>= λ kinds. Ok (fold with_kind l.words kinds)) ≡ (each (number_in l.low 639) (map view l.items) >>= λ kinds. Ok (set_of kinds))
