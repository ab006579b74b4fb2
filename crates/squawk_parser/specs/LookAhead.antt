-- The tokens that a parser sees.
use Rattle.std.specs.Prelude.{ℕ, Bool, false, List, [], ◌∷◌, take, drop}
use Rattle.squawk_table.specs.ParserInput.{Entry}

-- the tokens of an input from index start to index limit
abbrev pub seen_from : List Entry → ℕ → ℕ → List Entry
seen_from input limit start = drop start (take limit input)

-- whether the first of these tokens is joint with the second; if there is no second, it doesn't
abbrev pub is_joint_next : List Entry → Bool
is_joint_next [] = false
is_joint_next (e ∷ []) = false
is_joint_next (e ∷ next ∷ rest) = e.is_joint
