-- Lengths of operators that are exact up to a number.
use Rattle.std.specs.Prelude.{◌≡◌, ◌<◌, ◌⊎◌, ℕ}

-- what is found is the length, or both are above the most
abbrev pub IsLengthUpTo : ℕ → ℕ → ℕ → Type 0
IsLengthUpTo most length found = (found ≡ length) ⊎ ((most < found) × (most < length))
