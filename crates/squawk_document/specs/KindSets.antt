-- Sets of token kinds.
use Rattle.std.specs.Prelude.{◌≡◌, ℕ, ◌/◌, ◌%◌, ◌^◌, ◌==◌, List, Result, Ok, Err, bit_or, fold, slice_index, slice_set}
use Rattle.std.specs.List.{list_any}
use Rattle.serde_json.specs.Data.{Data}
use Rattle.squawk_kinds.specs.Kinds.{WHITESPACE}
use Rattle.squawk_kinds.specs.TokenSets.{has, no_kinds}
use Rattle.squawk_kinds.specs.declared.token_set.TokenSet.{TokenSet}
use Rattle.squawk_document.specs.declared.document_error.DocumentError.{DocumentError}
use Rattle.squawk_document.specs.Values.{◌>>=◌, each, items_in, number_in}

-- a list of token kinds that are at least `low`
abbrev pub kinds_in : ℕ → Data → Result (List ℕ) DocumentError
kinds_in low d = items_in d >>= λ ds. each (number_in low WHITESPACE) ds

-- ---- which kinds a set has

-- the set has a kind if and only if the list that is read has it
abbrev pub HasExactly : TokenSet → Result (List ℕ) DocumentError → Type 0
HasExactly set (Ok kinds) = (kind : ℕ) → has set kind ≡ list_any (λ one. one == kind) kinds
HasExactly set (Err e) = ⊥

-- ---- which set it is

-- a set with one token kind more, whose bit is set
abbrev pub with_kind : TokenSet → ℕ → TokenSet
with_kind set kind = slice_set set (kind / 64) (bit_or (slice_index set (kind / 64)) (2 ^ (kind % 64)))

-- the set of these token kinds
abbrev pub set_of : List ℕ → TokenSet
set_of kinds = fold with_kind no_kinds kinds

-- a list of token kinds that are at least `low`, as the set of these
abbrev pub set_in : ℕ → Data → Result TokenSet DocumentError
set_in low d = kinds_in low d >>= λ kinds. Ok (set_of kinds)
