-- Texts that end a line.
use Rattle.std.specs.Prelude.{◌≡◌, ℕ, List, [], ◌∷◌, ◌++◌}

-- the last byte is a newline (10)
pub record EndsLine (text : List ℕ) : Type 0 where
  pub front : List ℕ
  pub line : text ≡ front ++ 10 ∷ []
