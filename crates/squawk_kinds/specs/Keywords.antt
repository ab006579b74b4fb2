-- Keywords of a vocabulary.
use Rattle.std.specs.Prelude.{ℕ, Option, List}

-- the kind of each text that is a keyword
abbrev pub Keywords : Type 0
Keywords = List ℕ → Option ℕ
