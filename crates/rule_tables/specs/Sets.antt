-- Sets of a table.
use Rattle.std.specs.Prelude.{◌≡◌, ℕ, ◌*◌, ◌/◌, ◌%◌, ◌^◌, ◌<◌, ◌≤◌, List, length, slice_get, slice_index}
use Rattle.squawk_kinds.specs.declared.token_set.TokenSet.{TokenSet}
use Rattle.rule_grammar.specs.Parts.{set_has}
use Rattle.rule_tables.specs.Classes.{list_has}

-- a list has the sets of another, and more after them
pub record Extends (front all : List TokenSet) : Type 0 where
  pub longer : length front ≤ length all
  pub same : (n : ℕ) → n < length front → slice_get all n ≡ slice_get front n

-- the n-th 16 bits of a set
abbrev pub word_of : TokenSet → ℕ → ℕ
word_of set n = (slice_index set (n / 4) / 2 ^ (16 * (n % 4))) % 65536

-- the words of the first n sets have their kinds
abbrev pub HaveSets : List TokenSet → List (List ℕ) → ℕ → Type 0
HaveSets sets words n = (k : ℕ) → k < n → (kind : ℕ) → set_has words k kind ≡ list_has sets k kind
