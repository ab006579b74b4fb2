use Rattle.std.proofs.Common.{◌≡◌, ℕ, List, drop, length, vec_len, vec_capacity}
use Rattle.std.specs.Prelude.{map}
use Rattle.serde_json.specs.View.{view}
use Rattle.squawk_document.specs.GrammarWords.{kind_and_name_in}
use Rattle.squawk_document.specs.Values.{each}
use Rattle.squawk_document.proofs.ReadingLemmas.{with_front}
use Rattle.squawk_document.proofs.words.names.Given as goal

abbrev pub invariant-loop-item : goal.invariant-loop-item
invariant-loop-item l = record {
  read : with_front {X = ℕ × List ℕ} (map (λ pair. (pair.0, pair.1.now)) l.names.items) (each kind_and_name_in (map view (drop l.item-index l.items))) ≡ each kind_and_name_in (map view l.items);
  len : vec_len l.names ≡ l.item-index;
  room : vec_capacity l.names ≡ length l.items;
}
