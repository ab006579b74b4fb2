-- Texts as they are compared, and their keys.
use Rattle.std.proofs.Common.{◌≡◌, ℕ, ◌+◌, ◌-◌, ◌*◌, ◌/◌, ◌%◌, ◌^◌, ◌<◌, zero, suc, List, [], ◌∷◌, Bool, true, false, length, get_or, map, min, inl, inr, refl, sym, ap, ◌∙◌, arith, le-leb}
use Rattle.std.proofs.lemmas.List.{length-map}
use Rattle.std.proofs.lemmas.Bool.{cases_lt, le-ltb, lt-leb, lt-ltb}
use Rattle.std.specs.Char.{to_ascii_lowercase}
use Rattle.std.specs.Int.{from_le_bytes, w32}
use Rattle.squawk_keywords.specs.LetterCase.{compared, lowered}
use Rattle.squawk_keywords.specs.TextKeys.{AreBytes, both, key_of, short_key, four_bytes_at}

-- ---- bytes

lower-small : (b : ℕ) → b < 256 → to_ascii_lowercase b < 256
lower-small b small =
    elim (cases_lt b 65) [
      | inl below ↦ rw (lt-ltb b 65 below) small
      | inr from ↦
          elim (cases_lt b 91) [
            | inl capital ↦ rw (le-ltb b 65 from, lt-ltb b 91 capital) (omega arith)
            | inr past ↦ rw (le-ltb b 65 from, le-ltb b 91 past) small
          ]
    ]

-- past a text's end too
get_or-lower : (text : List ℕ) (i : ℕ) → get_or (map to_ascii_lowercase text) i 0 ≡ to_ascii_lowercase (get_or text i 0)
get_or-lower [] i = refl
get_or-lower (b ∷ text) zero = refl
get_or-lower (b ∷ text) (suc i) = get_or-lower text i

pub bytes-compared : (ignores_case : Bool) (text : List ℕ) → AreBytes text → AreBytes (compared ignores_case text)
bytes-compared true text bytes i = rw (get_or-lower text i) (lower-small (get_or text i 0) (bytes i))
bytes-compared false text bytes i = bytes i

pub length-compared : (ignores_case : Bool) (text : List ℕ) → length (compared ignores_case text) ≡ length text
length-compared true text = length-map text to_ascii_lowercase
length-compared false text = refl

-- ---- numbers of bytes

-- four bytes as a number
abbrev four : ℕ → ℕ → ℕ → ℕ → ℕ
four a b c d = a + 256 * (b + 256 * (c + 256 * d))

from_le_bytes-four : (a b c d : ℕ) → from_le_bytes w32 (a ∷ b ∷ c ∷ d ∷ []) ≡ four a b c d
from_le_bytes-four a b c d = omega arith

lowered-byte : (n b high : ℕ) → b < 256 → lowered (suc n) (b + 256 * high) ≡ to_ascii_lowercase b + 256 * lowered n high
unfolding lowered
lowered-byte n b high small =
    let low : (b + 256 * high) % 256 ≡ b = omega arith in
    let rest : (b + 256 * high) / 256 ≡ high = omega arith in
    rw (low, rest) refl

lowered-none : (n : ℕ) → lowered n 0 ≡ 0
unfolding lowered
lowered-none zero = refl
lowered-none (suc n) = ap (λ rest. 0 + 256 * rest) (lowered-none n)

-- four bytes and the bytes above them
lowered-four : (n a b c d high : ℕ) → a < 256 → b < 256 → c < 256 → d < 256
    → lowered (suc (suc (suc (suc n)))) (four a b c d + 2 ^ 32 * high)
    ≡ four (to_ascii_lowercase a) (to_ascii_lowercase b) (to_ascii_lowercase c) (to_ascii_lowercase d) + 2 ^ 32 * lowered n high
lowered-four n a b c d high ha hb hc hd =
    let one : four a b c d + 2 ^ 32 * high ≡ a + 256 * (b + 256 * (c + 256 * (d + 256 * high))) = omega arith in
    ap (lowered (suc (suc (suc (suc n))))) one
    ∙ lowered-byte (suc (suc (suc n))) a (b + 256 * (c + 256 * (d + 256 * high))) ha
    ∙ ap (λ rest. to_ascii_lowercase a + 256 * rest) (lowered-byte (suc (suc n)) b (c + 256 * (d + 256 * high)) hb)
    ∙ ap (λ rest. to_ascii_lowercase a + 256 * (to_ascii_lowercase b + 256 * rest)) (lowered-byte (suc n) c (d + 256 * high) hc)
    ∙ ap (λ rest. to_ascii_lowercase a + 256 * (to_ascii_lowercase b + 256 * (to_ascii_lowercase c + 256 * rest))) (lowered-byte n d high hd)
    ∙ omega arith

-- ---- keys

-- four bytes of a text in lower case, and what stands above them
lowered-word : (n : ℕ) (text : List ℕ) (at high : ℕ) → AreBytes text
    → lowered (suc (suc (suc (suc n)))) (four_bytes_at text at + 2 ^ 32 * high) ≡ four_bytes_at (map to_ascii_lowercase text) at + 2 ^ 32 * lowered n high
lowered-word n text at high bytes =
    let a = get_or text at 0 in
    let b = get_or text (at + 1) 0 in
    let c = get_or text (at + 2) 0 in
    let d = get_or text (at + 3) 0 in
    let each : four_bytes_at (map to_ascii_lowercase text) at ≡ from_le_bytes w32 (to_ascii_lowercase a ∷ to_ascii_lowercase b ∷ to_ascii_lowercase c ∷ to_ascii_lowercase d ∷ []) =
    λ i. from_le_bytes w32 (get_or-lower text at i ∷ get_or-lower text (at + 1) i ∷ get_or-lower text (at + 2) i ∷ get_or-lower text (at + 3) i ∷ []) in
    ap (λ word. lowered (suc (suc (suc (suc n)))) (word + 2 ^ 32 * high)) (from_le_bytes-four a b c d)
    ∙ lowered-four n a b c d high (bytes at) (bytes (at + 1)) (bytes (at + 2)) (bytes (at + 3))
    ∙ ap (λ four. four + 2 ^ 32 * lowered n high)
    (sym (from_le_bytes-four (to_ascii_lowercase a) (to_ascii_lowercase b) (to_ascii_lowercase c) (to_ascii_lowercase d))
    ∙ sym each)

-- two numbers of 32 bits
lowered-both : (text : List ℕ) (at next : ℕ) → AreBytes text
    → lowered 8 (both (four_bytes_at text at) (four_bytes_at text next)) ≡ both (four_bytes_at (map to_ascii_lowercase text) at) (four_bytes_at (map to_ascii_lowercase text) next)
lowered-both text at next bytes =
    let alone : four_bytes_at text next ≡ four_bytes_at text next + 2 ^ 32 * 0 = omega arith in
    lowered-word 4 text at (four_bytes_at text next) bytes
    ∙ ap (both (four_bytes_at (map to_ascii_lowercase text) at)) (ap (lowered 4) alone ∙ lowered-word 0 text next 0 bytes ∙ ap (λ n. four_bytes_at (map to_ascii_lowercase text) next + 2 ^ 32 * n) (lowered-none 0) ∙ omega arith)

abbrev lowered_key : ℕ × ℕ → ℕ × ℕ
lowered_key key = (lowered 8 key.0, lowered 8 key.1)

-- of a short text
short-lower : (text : List ℕ) → AreBytes text → lowered_key (short_key text) ≡ short_key (map to_ascii_lowercase text)
short-lower [] bytes = λ i. (lowered-none 8 i, lowered-none 8 i)
short-lower (first ∷ rest) bytes =
    let text = first ∷ rest in
    let low = map to_ascii_lowercase text in
    let len : length low ≡ length text = length-map text to_ascii_lowercase in
    let middle = get_or text (length text / 2) 0 in
    let last = get_or text (length text - 1) 0 in
    let each : from_le_bytes w32 (to_ascii_lowercase first ∷ get_or low (length text / 2) 0 ∷ get_or low (length text - 1) 0 ∷ 0 ∷ [])
    ≡ from_le_bytes w32 (to_ascii_lowercase first ∷ to_ascii_lowercase middle ∷ to_ascii_lowercase last ∷ 0 ∷ []) =
    λ i. from_le_bytes w32 (to_ascii_lowercase first ∷ get_or-lower text (length text / 2) i ∷ get_or-lower text (length text - 1) i ∷ 0 ∷ []) in
    let none : from_le_bytes w32 (first ∷ middle ∷ last ∷ 0 ∷ []) ≡ four first middle last 0 + 2 ^ 32 * 0 = omega arith in
    let word : lowered 8 (from_le_bytes w32 (first ∷ middle ∷ last ∷ 0 ∷ []))
    ≡ from_le_bytes w32 (to_ascii_lowercase first ∷ get_or low (length low / 2) 0 ∷ get_or low (length low - 1) 0 ∷ 0 ∷ []) =
    ap (lowered 8) none ∙ lowered-four 4 first middle last 0 0 (bytes 0) (bytes (length text / 2)) (bytes (length text - 1)) (omega arith)
    ∙ ap (λ n. four (to_ascii_lowercase first) (to_ascii_lowercase middle) (to_ascii_lowercase last) 0 + 2 ^ 32 * n) (lowered-none 4)
    ∙ omega arith
    ∙ sym each
    ∙ ap (λ n. from_le_bytes w32 (to_ascii_lowercase first ∷ get_or low (n / 2) 0 ∷ get_or low (n - 1) 0 ∷ 0 ∷ [])) (sym len) in
    λ i. (word i, lowered-none 8 i)

-- the key of a text in lower case is its key, each byte of it in lower case
pub key-lower : (text : List ℕ) → AreBytes text → lowered_key (key_of text) ≡ key_of (map to_ascii_lowercase text)
unfolding key_of
key-lower text bytes =
    let low = map to_ascii_lowercase text in
    let len : length low ≡ length text = length-map text to_ascii_lowercase in
    elim (cases_lt (length text) 4) [
      | inl few ↦ rw (lt-leb 4 (length text) few, len, lt-leb 4 (length text) few) (short-lower text bytes)
      | inr long ↦
          rw (le-leb 4 (length text) long, len, le-leb 4 (length text) long)
          (λ i. (lowered-both text 0 (min (length text - 4) 4) bytes i, lowered-both text (min (length text - 4) 8) (length text - 4) bytes i))
    ]

pub key-lowered : (text : List ℕ) (low high : ℕ) → AreBytes text → (low, high) ≡ key_of text → (lowered 8 low, lowered 8 high) ≡ key_of (map to_ascii_lowercase text)
key-lowered text low high bytes is = ap lowered_key is ∙ key-lower text bytes
