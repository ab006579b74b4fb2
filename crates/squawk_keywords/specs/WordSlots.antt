-- A hash table of words. Only the look-up of words and its invariant use it.
use Rattle.std.specs.Prelude.{◌≡◌, ℕ, ◌+◌, ◌-◌, ◌*◌, ◌/◌, ◌%◌, ◌^◌, ◌<◌, ◌≤◌, ◌==◌, Bool, cond, List, [], ◌∷◌, ◌++◌, ◌⊎◌, length, Option, Some, None, slice_get, slice_index}
use Rattle.std.specs.Str.{bytes_eq}
use Rattle.squawk_kinds.specs.Keywords.{Keywords}
use Rattle.squawk_keywords.specs.LetterCase.{compared}
use Rattle.squawk_keywords.specs.TextKeys.{key_of}

-- the bucket of a text with this key: the upper eleven bits of a product
abbrev pub bucket_at : ℕ × ℕ → ℕ
bucket_at key = (key.0 + key.1) % 2 ^ 64 * 0x9e37_79b9_7f4a_7c15 % 2 ^ 64 / 2 ^ 53

-- the bucket of a text
abbrev pub bucket_of : List ℕ → ℕ
bucket_of text = bucket_at (key_of text)

-- the answer of a slot's word for a text, where the next slot has the rest: its kind, or that it is no word, or nothing
abbrev pub word_answer : Option (List ℕ × ℕ) → List ℕ → Option (Option ℕ) → Option (Option ℕ)
word_answer None text rest = None
word_answer (Some word) text rest = cond (bytes_eq word.0 text) (Some (Some word.1)) rest

-- the answer of a slot
abbrev pub slot_answer : List (List ℕ × ℕ) → ℕ → List ℕ → Option (Option ℕ) → Option (Option ℕ)
slot_answer words slot text rest = cond (slot == 0) (Some None) (word_answer (slice_get words (slot - 1)) text rest)

-- the answer of the two slots of a text's bucket
abbrev pub probed : List ℕ → List (List ℕ × ℕ) → List ℕ → Option (Option ℕ)
probed slots words text =
    let at = 2 * bucket_of text in
    slot_answer words (slice_index slots at) text (slot_answer words (slice_index slots (at + 1)) text None)

-- each bucket has two slots, the first taken before the second; a slot is free, of a word that is kept, or past all words
pub record AreSlots (slots : List ℕ) (words : List (List ℕ × ℕ)) : Type 0 where
  pub size : length slots ≡ 4096
  pub few : length words ≤ 2048
  pub known : (i : ℕ) → slice_index slots i < 65535 → slice_index slots i ≤ length words
  pub ordered : (bucket : ℕ) → slice_index slots (2 * bucket) ≡ 0 → slice_index slots (2 * bucket + 1) ≡ 0

-- a word is kept behind the words, or isn't kept, and this is its slot
abbrev pub IsKept : List (List ℕ × ℕ) → List ℕ × ℕ → ℕ → List (List ℕ × ℕ) → Type 0
IsKept old word slot new = ((length old < 2048) × (slot ≡ length old + 1) × (new ≡ old ++ word ∷ [])) ⊎ ((slot ≡ 65535) × (new ≡ old))

-- each answer of the slots for a text, as it is compared, is its kind
abbrev pub AgreeWith : Bool → Keywords → List ℕ → List (List ℕ × ℕ) → Type 0
AgreeWith ignores_case kind_of slots words = (text : List ℕ) (answer : Option ℕ) → probed slots words (compared ignores_case text) ≡ Some answer → kind_of text ≡ answer
