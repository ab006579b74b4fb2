use Rattle.std.proofs.Common.{◌≡◌, drop, length}
use Rattle.std.specs.Prelude.{map, vec_len, vec_capacity}
use Rattle.serde_json.specs.View.{view}
use Rattle.squawk_document.specs.Values.{each}
use Rattle.squawk_document.specs.TokenShapes.{token_in}
use Rattle.squawk_document.proofs.ReadingLemmas.{with_front}
use Rattle.squawk_document.proofs.token.tokens.Given as goal

abbrev pub invariant-loop-item : goal.invariant-loop-item
invariant-loop-item l = record {
  done : with_front l.tokens.items (each token_in (map view (drop l.item-index l.items))) ≡ each token_in (map view l.items);
  len : vec_len l.tokens ≡ l.item-index;
  room : vec_capacity l.tokens ≡ length l.items;
}
