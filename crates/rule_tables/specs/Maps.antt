-- What a map of rows has.
use Rattle.std.specs.Prelude.{◌≡◌, ℕ, ◌<◌, ◌==◌, Bool, true, false, Option, Some, None, List, length, slice_get, slice_set}
use Rattle.rule_grammar.specs.declared.part.Part.{Part}
use Rattle.rule_tables.specs.Places.{goal_of, last_below, outer_of}

-- whether row k leads to row h
abbrev pub is_number : ℕ → Option ℕ → Bool
is_number h None = false
is_number h (Some n) = n == h

abbrev pub leads_to : List Part → ℕ → ℕ → Bool
leads_to rows h k = is_number h (goal_of rows k (slice_get rows k))

-- the rows that the first n rows are in
pub record AreOuters (rows : List Part) (outers : List (Option ℕ)) (n : ℕ) : Type 0 where
  pub len : length outers ≡ n
  pub are : (k : ℕ) → k < n → slice_get outers k ≡ Some (outer_of rows k)

-- of the first n rows the last one that leads to each row, and the one before each that leads to the same row
pub record AreLinked (rows : List Part) (lasts earlier : List (Option ℕ)) (n : ℕ) : Type 0 where
  pub len : length earlier ≡ n
  pub all : length lasts ≡ length rows
  pub last : (h : ℕ) → h < length rows → slice_get lasts h ≡ Some (last_below (leads_to rows h) n)
  pub before : (k : ℕ) → k < n → (h : ℕ) → h < length rows → leads_to rows h k ≡ true → slice_get earlier k ≡ Some (last_below (leads_to rows h) k)

-- the last row that leads to the same, of those that are known
abbrev pub known_at : Option (Option ℕ) → Option ℕ
known_at None = None
known_at (Some last) = last

abbrev pub at_goal : Option ℕ → List (Option ℕ) → Option ℕ
at_goal None lasts = None
at_goal (Some h) lasts = known_at (slice_get lasts h)

-- and with this row
abbrev pub with_goal : Option ℕ → ℕ → List (Option ℕ) → List (Option ℕ)
with_goal None row lasts = lasts
with_goal (Some h) row lasts = slice_set lasts h (Some row)
