-- Sets of token kinds.
use Rattle.std.specs.Prelude.{ℕ, ◌/◌, ◌%◌, ◌&&◌, ◌==◌, Bool, nat_le, slice_index, replicate}
use Rattle.std.specs.Int.{bit_at}
use Rattle.squawk_kinds.specs.Kinds.{WHITESPACE}
use Rattle.squawk_kinds.specs.declared.token_set.TokenSet.{TokenSet}

-- whether the set has the kind: a token kind whose bit, in the set's ten words of 64 bits, is 1
unfoldable pub has : TokenSet → ℕ → Bool
has set kind = nat_le kind WHITESPACE && (bit_at (slice_index set (kind / 64)) (kind % 64) == 1)

-- the empty set
abbrev pub no_kinds : TokenSet
no_kinds = replicate 10 0
