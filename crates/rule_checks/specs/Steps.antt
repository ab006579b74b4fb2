-- Steps from row to row.
use Rattle.std.specs.Prelude.{◌≡◌, ℕ, Bool, true, List, Vec, slice_get, Contains, IsSomeAnd, length, ◌<◌, ◌⊎◌}
use Rattle.rule_checks.specs.Sets.{has}
use Rattle.std.specs.declared.alloc.Global.{Global}

-- Row j is among those that are listed for row i.
abbrev pub Lists : List (Vec ℕ Global) → ℕ → ℕ → Type 0
Lists lists i j = IsSomeAnd (slice_get lists i) (λ list. Contains list.items j)

-- One or more steps lead from a row to row k.
pub data After (leads : ℕ → ℕ → Type 0) (from : ℕ) : ℕ → Type 0 where
  one : {k : ℕ} → leads from k → After leads from k
  more : {i k : ℕ} → After leads from i → leads i k → After leads from k

-- A set has what a row leads to, and what a row in it leads to.
abbrev pub IsClosedFrom : (ℕ → ℕ → Type 0) → ℕ → (ℕ → Bool) → Type 0
IsClosedFrom leads from set = (i j : ℕ) → (i ≡ from) ⊎ (set i ≡ true) → leads i j → set j ≡ true

-- Marked rows lead to marked rows alone, and none of them comes after itself.
pub record HaveEnded (lists : List (Vec ℕ Global)) (marks : List Bool) : Type 0 where
  pub stay : (k m : ℕ) → has marks k ≡ true → Lists lists k m → has marks m ≡ true
  pub end : (k : ℕ) → k < length lists → has marks k ≡ true → ¬ After (Lists lists) k k
