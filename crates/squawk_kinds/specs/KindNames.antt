-- What kinds are called.
use Rattle.std.specs.Prelude.{ℕ, ◌==◌, List, Option, find, option_map, unwrap_or}
use Rattle.std.specs.Fmt.{decimal}

-- kinds with their names
abbrev pub Names : Type 0
Names = List (ℕ × List ℕ)

-- the name of a kind's first pair, if it has one
abbrev pub first_name : Names → ℕ → Option (List ℕ)
first_name names kind = option_map (λ pair. pair.1) (find (λ pair. pair.0 == kind) names)

-- the name of a kind: that of its first pair, else its number
abbrev pub kind_name : Names → ℕ → List ℕ
kind_name names kind = unwrap_or (first_name names kind) (decimal kind)
