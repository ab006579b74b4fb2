-- The slots of kinds' first pairs, which the look-up of names relies on.
use Rattle.std.specs.Prelude.{◌≡◌, ℕ, ◌==◌, List, length}
use Rattle.std.specs.List.{position_or_len, slice_index_or}
use Rattle.squawk_kinds.specs.KindNames.{Names}

-- the slot of a kind's first pair, or how many pairs there are
abbrev pub first_slot : Names → ℕ → ℕ
first_slot names kind = position_or_len (λ pair. pair.0 == kind) names

-- an index has the first slot of each kind; a kind past its end has no pair
abbrev pub IsIndex : Names → List ℕ → Type 0
IsIndex names index = (kind : ℕ) → slice_index_or index kind (length names) ≡ first_slot names kind
