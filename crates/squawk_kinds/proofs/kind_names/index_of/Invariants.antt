use Rattle.std.proofs.Common.{◌≡◌, ℕ, ◌+◌, length, get_or}
use Rattle.squawk_kinds.proofs.FirstPairs.{first_from}
use Rattle.squawk_kinds.proofs.kind_names.index_of.Given as goal

-- the index has the first slots among the pairs from this slot on, and an entry for each kind
abbrev pub invariant-loop-slot : goal.invariant-loop-slot
invariant-loop-slot l = record {
  len : length l.index.items ≡ l.greatest + 1;
  indexed : (kind : ℕ) → get_or l.index.items kind (length l.pairs) ≡ first_from l.pairs l.slot kind;
}
