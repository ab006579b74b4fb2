-- Words with their kinds, and what they mean.
use Rattle.std.specs.Prelude.{ℕ, ◌==◌, All, Bool, List, MatchOption, map, slice_get, take}
use Rattle.std.specs.Char.{to_ascii_lowercase}
use Rattle.std.specs.List.{list_any}
use Rattle.std.specs.Map.{lookup}
use Rattle.std.specs.Str.{bytes_eq}
use Rattle.squawk_kinds.specs.Keywords.{Keywords}
use Rattle.squawk_kinds.specs.Kinds.{IsKeyword}
use denote.Ref.{Bor}

-- words as the code has them, as their bytes
abbrev pub pairs_of : List (Bor (List ℕ) × ℕ) → List (List ℕ × ℕ)
pairs_of = map (λ pair. (pair.0.now, pair.1))

-- the kind of a word: that of the first pair with the word
abbrev pub kind_of_word : List (List ℕ × ℕ) → Keywords
kind_of_word pairs text = lookup (λ word. bytes_eq word text) pairs

-- the same without regard to ASCII case
abbrev pub kind_of_word_ignoring_case : List (List ℕ × ℕ) → Keywords
kind_of_word_ignoring_case pairs text = lookup (λ word. bytes_eq (map to_ascii_lowercase word) (map to_ascii_lowercase text)) pairs

-- whether a word has this kind
abbrev pub has_kind : List (List ℕ × ℕ) → ℕ → Bool
has_kind pairs kind = list_any (λ pair. pair.1 == kind) pairs

-- each word has the kind of a keyword
abbrev pub AreKeywords : List (List ℕ × ℕ) → Type 0
AreKeywords = All (λ pair. IsKeyword pair.1)

-- the kind of pair i is no keyword's, and those of the pairs before it are
pub record IsFirstOther (pairs : List (List ℕ × ℕ)) (i : ℕ) : Type 0 where
  pub other : MatchOption (slice_get pairs i) ⊥ (λ pair. ¬ (IsKeyword pair.1))
  pub before : AreKeywords (take i pairs)
