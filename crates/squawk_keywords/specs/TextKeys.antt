-- The key of a text, two numbers. Only the look-up of words uses it.
use Rattle.std.specs.Prelude.{◌≡◌, ℕ, ◌+◌, ◌*◌, ◌-◌, ◌/◌, ◌%◌, ◌^◌, ◌<◌, ◌≤◌, cond, List, [], ◌∷◌, ◌++◌, length, min, nat_le, slice_index, take}
use Rattle.std.specs.Int.{from_le_bytes, to_le_bytes, w32}

-- four bytes of a text from an offset on, as a number
abbrev pub four_bytes_at : List ℕ → ℕ → ℕ
four_bytes_at text at = from_le_bytes w32 (slice_index text at ∷ slice_index text (at + 1) ∷ slice_index text (at + 2) ∷ slice_index text (at + 3) ∷ [])

-- two numbers of 32 bits as one
abbrev pub both : ℕ → ℕ → ℕ
both low high = low + 2 ^ 32 * high

-- a text of at most three bytes is all in the first number
abbrev pub short_key : List ℕ → ℕ × ℕ
short_key [] = (0, 0)
short_key (first ∷ rest) =
    let text = first ∷ rest in
    (from_le_bytes w32 (first ∷ slice_index text (length text / 2) ∷ slice_index text (length text - 1) ∷ 0 ∷ []), 0)

-- the first four bytes, the next, the next, and the last four; they may overlap
unfoldable pub key_of : List ℕ → ℕ × ℕ
key_of text =
    cond (nat_le 4 (length text))
    (both (four_bytes_at text 0) (four_bytes_at text (min (length text - 4) 4)), both (four_bytes_at text (min (length text - 4) 8)) (four_bytes_at text (length text - 4)))
    (short_key text)

-- the text of so many bytes, 16 at most, that has this key
unfoldable pub text_of : ℕ → ℕ × ℕ → List ℕ
text_of len key =
    cond (nat_le 4 len)
    (take (len - 4) (to_le_bytes w32 (key.0 % 2 ^ 32) ++ to_le_bytes w32 (key.0 / 2 ^ 32) ++ to_le_bytes w32 (key.1 % 2 ^ 32)) ++ to_le_bytes w32 (key.1 / 2 ^ 32))
    (take len (to_le_bytes w32 key.0))

-- these are the length and the key of a text
pub record IsOfText (len : ℕ) (key : ℕ × ℕ) : Type 0 where
  pub short : len ≤ 16
  pub long : length (text_of len key) ≡ len
  pub are : key_of (text_of len key) ≡ key

-- the bytes of a text are below 256, as those of every text are
abbrev pub AreBytes : List ℕ → Type 0
AreBytes text = (i : ℕ) → slice_index text i < 256
