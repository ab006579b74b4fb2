-- Sets of rows, as marks.
use Rattle.std.specs.Prelude.{◌≡◌, ℕ, ◌<◌, Bool, true, ◌↔◌, List, Option, Some, None, slice_index_or}

-- whether a row is marked; past the end all are
abbrev pub has : List Bool → ℕ → Bool
has marks k = slice_index_or marks k true

-- Marked are the rows with a property.
abbrev pub IsSetOf : (ℕ → Type 0) → List Bool → Type 0
IsSetOf P marks = (k : ℕ) → (has marks k ≡ true) ↔ P k

-- The same of the first rows, so many.
abbrev pub IsSetBelow : ℕ → (ℕ → Type 0) → List Bool → Type 0
IsSetBelow count P marks = (k : ℕ) → k < count → (has marks k ≡ true) ↔ P k

-- The first row with a property, of so many.
abbrev pub IsFirst : ℕ → (ℕ → Type 0) → Option ℕ → Type 0
IsFirst count P (Some k) = (k < count) × P k × ((j : ℕ) → j < k → ¬ P j)
IsFirst count P None = (k : ℕ) → k < count → ¬ P k
