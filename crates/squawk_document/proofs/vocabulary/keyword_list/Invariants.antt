use Rattle.std.proofs.Common.{◌≡◌, ℕ, List, drop, length, vec_len, vec_capacity}
use Rattle.std.specs.Prelude.{map}
use Rattle.serde_json.specs.View.{view}
use Rattle.squawk_keywords.specs.KeywordPairs.{AreKeywords, pairs_of}
use Rattle.squawk_document.specs.KeywordPairs.{keyword_in}
use Rattle.squawk_document.specs.Values.{each}
use Rattle.squawk_document.proofs.ReadingLemmas.{with_front}
use Rattle.squawk_document.proofs.vocabulary.keyword_list.Given as goal

abbrev pub invariant-loop-item : goal.invariant-loop-item
invariant-loop-item l = record {
  read : with_front {X = List ℕ × ℕ} (pairs_of l.pairs.items) (each keyword_in (map view (drop l.item-index l.items))) ≡ each keyword_in (map view l.items);
  keywords : AreKeywords (pairs_of l.pairs.items);
  len : vec_len l.pairs ≡ l.item-index;
  room : vec_capacity l.pairs ≡ length l.items;
}
