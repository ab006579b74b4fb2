-- Bits in words of 64 bits.
use Rattle.std.specs.Prelude.{◌≡◌, ℕ, ◌/◌, ◌%◌, ◌≤◌, ◌==◌, Bool, false, List, length, map, slice_index}
use Rattle.std.specs.Int.{bit_at, div_ceil}
use Rattle.std.specs.List.{range_with_len}

-- whether bit k is set: in word k / 64 the bit of value 2 ^ (k % 64)
abbrev pub is_set : List ℕ → ℕ → Bool
is_set words k = bit_at (slice_index words (k / 64)) (k % 64) == 1

-- the first n bits
abbrev pub bits_of : List ℕ → ℕ → List Bool
bits_of words n = map (is_set words) (range_with_len 0 n)

-- n bits have as many words as they need, and no bit past the last is set
pub record IsPacked (words : List ℕ) (n : ℕ) : Type 0 where
  pub count : length words ≡ div_ceil n 64
  pub unused : (k : ℕ) → n ≤ k → is_set words k ≡ false
