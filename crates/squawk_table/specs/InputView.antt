-- What contracts see of an input's tokens.
use Rattle.std.specs.Prelude.{◌≡◌, ℕ, Bool, false, List, length, map, slice_index}
use Rattle.std.specs.List.{range_with_len, slice_index_or}
use Rattle.squawk_table.specs.ParserInput.{Entry}

-- token k of an input, by the lists of kinds, of contextual kinds, and of whether each token is joint with the next
abbrev pub entry_in : List ℕ → List ℕ → List Bool → ℕ → Entry
entry_in kinds contextual_kinds joints k = record {
  kind = slice_index kinds k;
  contextual_kind = slice_index contextual_kinds k;
  is_joint = slice_index_or joints k false;
}

-- its tokens
abbrev pub entries_in : List ℕ → List ℕ → List Bool → List Entry
entries_in kinds contextual_kinds joints = map (entry_in kinds contextual_kinds joints) (range_with_len 0 (length kinds))

-- each of the lists has an item a token
pub record IsEven (kinds contextual_kinds : List ℕ) (joints : List Bool) : Type 0 where
  pub contextual : length contextual_kinds ≡ length kinds
  pub joint : length joints ≡ length kinds
