-- Texts as they are compared, with or without regard to case. Only the look-up of words uses it.
use Rattle.std.specs.Prelude.{ℕ, ◌+◌, ◌*◌, ◌/◌, ◌%◌, zero, suc, Bool, cond, List, map}
use Rattle.std.specs.Char.{to_ascii_lowercase}
use Rattle.std.specs.Cmp.Lexicographic.{slice_cmp}
use Rattle.std.specs.List.Sorted.{IsSortedBy}
use Rattle.std.specs.Map.{lookup}
use Rattle.std.specs.Ordering.{is_lt, nat_cmp}
use Rattle.std.specs.Str.{bytes_eq}
use Rattle.squawk_kinds.specs.Keywords.{Keywords}
use denote.Ref.{Bor}

-- what of a text is compared: its bytes, or these in ASCII lower case
abbrev pub compared : Bool → List ℕ → List ℕ
compared ignores_case text = cond ignores_case (map to_ascii_lowercase text) text

-- the kind of a word, in one way or the other
abbrev pub kind_by : Bool → List (List ℕ × ℕ) → Keywords
kind_by ignores_case pairs text = lookup (λ word. bytes_eq (compared ignores_case word) (compared ignores_case text)) pairs

-- words are sorted as they are compared
abbrev pub IsInOrder : Bool → List (Bor (List ℕ) × ℕ) → Type 0
IsInOrder ignores_case = IsSortedBy (λ one other. is_lt (slice_cmp nat_cmp (compared ignores_case one.0.now) (compared ignores_case other.0.now)))

-- a number of so many bytes, each in ASCII lower case
unfoldable pub lowered : ℕ → ℕ → ℕ
lowered zero bytes = 0
lowered (suc n) bytes = to_ascii_lowercase (bytes % 256) + 256 * lowered n (bytes / 256)
