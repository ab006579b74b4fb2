use Rattle.std.proofs.Common.{◌≡◌, ◌≤◌, drop, length, vec_len, vec_capacity}
use Rattle.std.specs.Prelude.{map}
use Rattle.serde_json.specs.View.{view}
use Rattle.squawk_document.specs.Values.{each}
use Rattle.squawk_document.specs.Calls.{call_in}
use Rattle.squawk_document.proofs.ReadingLemmas.{with_front}
use Rattle.squawk_document.proofs.calls.calls.Given as goal

abbrev pub invariant-loop-item : goal.invariant-loop-item
invariant-loop-item l = record {
  read : with_front l.calls.items (each call_in (map view (drop l.item-index l.items))) ≡ each call_in (map view l.items);
  len : vec_len l.calls ≡ l.item-index;
  room : length l.items ≤ vec_capacity l.calls;
}
