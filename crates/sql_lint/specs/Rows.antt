-- What a rule says of a node.
use Rattle.std.specs.Prelude.{Bool, List, ℕ}
use denote.Ref.{Bor}

-- whether it is broken, and what is told of that
abbrev pub Row : Type 0
Row = Bool × List ℕ

abbrev pub row_of : Bool × Bor (List ℕ) → Row
row_of row = (row.0, row.1.now)
