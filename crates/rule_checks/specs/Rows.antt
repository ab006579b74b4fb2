-- Rows, and which of them stand beside one another.
use Rattle.std.specs.Prelude.{ℕ, ◌<◌, List, slice_index_or}
use Rattle.rule_grammar.specs.Derivations.{next_of}
use Rattle.rule_grammar.specs.declared.part.Part.{Part}
use Rattle.rule_grammar.specs.declared.part.Part.TheVariants.{Nothing}

-- row k; past the end there is nothing
abbrev pub row_at : List Part → ℕ → Part
row_at rows k = slice_index_or rows k Nothing

-- the row after row k and all that is in it
abbrev pub next_at : List Part → ℕ → ℕ
next_at rows k = next_of k (row_at rows k)

-- Of the rows beside one another from one up to an end, those before which each can be passed.
pub data First (rows : List Part) (passes : ℕ → Type 0) (end : ℕ) : ℕ → ℕ → Type 0 where
  here : {k : ℕ} → k < end → First rows passes end k k
  past : {k m : ℕ} → k < end → passes k → First rows passes end (next_at rows k) m → First rows passes end k m

-- all of them
abbrev pub Beside : List Part → ℕ → ℕ → ℕ → Type 0
Beside rows start end m = First rows (λ _. Unit {0}) end start m
