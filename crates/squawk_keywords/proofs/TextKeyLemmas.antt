-- A short text has its length and its key to itself.
use Rattle.std.proofs.Common.{◌≡◌, ℕ, ◌+◌, ◌-◌, ◌/◌, ◌%◌, ◌^◌, ◌<◌, ◌≤◌, ◌==◌, ◌&&◌, inl, inr, List, [], ◌∷◌, ◌++◌, zero, suc, length, get_or, min, take, drop, false, refl, sym, ap, ◌∙◌, arith, eq-eqb, ne_eqb, le-leb, length-append, length-take-le}
use Rattle.std.proofs.lemmas.Bool.{cases_eq, cases_lt, cases_Bool, lt-leb}
use Rattle.std.proofs.lemmas.List.{take-append-drop, take-append-le, take-take, take_rest}
use Rattle.std.proofs.Math.Nat.{min-eq_right, suc-add}
use Rattle.std.proofs.Math.Seq.{take-add}
use Rattle.std.proofs.lemmas.Nat.{le_bytes_4}
use Rattle.std.proofs.lemmas.Slice.Eq.{bytes_eq-Decides}
use Rattle.std.specs.Int.{from_le_bytes, to_le_bytes, w32}
use Rattle.std.specs.Str.{bytes_eq}
use Rattle.squawk_keywords.specs.TextKeys.{AreBytes, IsOfText, both, key_of, short_key, text_of, four_bytes_at}

-- ---- the key that is read

pub key-4 : (bytes : List ℕ) (one two three four : ℕ) → 4 ≤ length bytes → one ≡ four_bytes_at bytes 0 → two ≡ four_bytes_at bytes (min (length bytes - 4) 4)
    → three ≡ four_bytes_at bytes (min (length bytes - 4) 8) → four ≡ four_bytes_at bytes (length bytes - 4) → (both one two, both three four) ≡ key_of bytes
unfolding key_of
key-4 bytes one two three four long first next third last = rw (le-leb 4 (length bytes) long) (ap (λ n. (n, both three four)) (ap (λ n. both n two) first ∙ ap (both (four_bytes_at bytes 0)) next) ∙ ap (λ n. (both (four_bytes_at bytes 0) (four_bytes_at bytes (min (length bytes - 4) 4)), n)) (ap (λ n. both n four) third ∙ ap (both (four_bytes_at bytes (min (length bytes - 4) 8))) last))

key-few : (bytes : List ℕ) → length bytes < 4 → key_of bytes ≡ short_key bytes
unfolding key_of
key-few bytes short = rw (lt-leb 4 (length bytes) short) refl

pub key-short : (bytes : List ℕ) (all : ℕ) → length bytes < 4 → (length bytes ≡ 0 → ⊥)
    → all ≡ from_le_bytes w32 (get_or bytes 0 0 ∷ get_or bytes (length bytes / 2) 0 ∷ get_or bytes (length bytes - 1) 0 ∷ 0 ∷ []) → (all, 0) ≡ key_of bytes
key-short [] all short some is = absurd (some refl)
key-short (first ∷ rest) all short some is = ap (λ n. (n, 0)) is ∙ sym (key-few (first ∷ rest) short)

pub key-none : (bytes : List ℕ) → length bytes ≡ 0 → (0, 0) ≡ key_of bytes
key-none [] none = sym (key-few [] (omega arith))
key-none (b ∷ bytes) none = absurd (omega (arith, none))

-- ---- and back

text_of-4 : (len : ℕ) (one two three four : ℕ) → 4 ≤ len → one < 2 ^ 32 → three < 2 ^ 32
    → text_of len (both one two, both three four) ≡ take (len - 4) (to_le_bytes w32 one ++ to_le_bytes w32 two ++ to_le_bytes w32 three) ++ to_le_bytes w32 four
unfolding text_of
text_of-4 len one two three four long fits_one fits_three =
    let low : both one two % 2 ^ 32 ≡ one = omega arith in
    let next : both one two / 2 ^ 32 ≡ two = omega arith in
    let third : both three four % 2 ^ 32 ≡ three = omega arith in
    let last : both three four / 2 ^ 32 ≡ four = omega arith in
    rw (le-leb 4 len long, low, next, third, last) refl

text_of-few : (len : ℕ) (key : ℕ × ℕ) → len < 4 → text_of len key ≡ take len (to_le_bytes w32 key.0)
unfolding text_of
text_of-few len key short = rw (lt-leb 4 len short) refl

-- four bytes
four-bytes : (a b c d : ℕ) → a < 256 → b < 256 → c < 256 → d < 256 → AreBytes (a ∷ b ∷ c ∷ d ∷ [])
four-bytes a b c d ha hb hc hd zero = ha
four-bytes a b c d ha hb hc hd (suc zero) = hb
four-bytes a b c d ha hb hc hd (suc (suc zero)) = hc
four-bytes a b c d ha hb hc hd (suc (suc (suc zero))) = hd
four-bytes a b c d ha hb hc hd (suc (suc (suc (suc i)))) = omega arith

four-back : (a b c : ℕ) → a < 256 → b < 256 → c < 256 → to_le_bytes w32 (from_le_bytes w32 (a ∷ b ∷ c ∷ 0 ∷ [])) ≡ a ∷ b ∷ c ∷ 0 ∷ []
four-back a b c ha hb hc = le_bytes_4 (a ∷ b ∷ c ∷ 0 ∷ []) _ refl (four-bytes a b c 0 ha hb hc (omega arith)) refl

few-back : (text : List ℕ) (a b c : ℕ) → a < 256 → b < 256 → c < 256 → length text < 4 → key_of text ≡ (from_le_bytes w32 (a ∷ b ∷ c ∷ 0 ∷ []), 0)
    → text_of (length text) (key_of text) ≡ take (length text) (a ∷ b ∷ c ∷ 0 ∷ [])
few-back text a b c ha hb hc short key =
    ap (text_of (length text)) key ∙ text_of-few (length text) _ short ∙ ap (take (length text)) (four-back a b c ha hb hc)

back-few : (text : List ℕ) → AreBytes text → length text < 4 → text_of (length text) (key_of text) ≡ text
back-few [] bytes short = text_of-few 0 (key_of []) (omega arith)
back-few (a ∷ []) bytes short = few-back (a ∷ []) a a a (bytes 0) (bytes 0) (bytes 0) short (key-few (a ∷ []) short)
back-few (a ∷ b ∷ []) bytes short = few-back (a ∷ b ∷ []) a b b (bytes 0) (bytes 1) (bytes 1) short (key-few (a ∷ b ∷ []) short)
back-few (a ∷ b ∷ c ∷ []) bytes short = few-back (a ∷ b ∷ c ∷ []) a b c (bytes 0) (bytes 1) (bytes 2) short (key-few (a ∷ b ∷ c ∷ []) short)
back-few (a ∷ b ∷ c ∷ d ∷ text) bytes short = absurd (omega (arith, short))

-- four bytes, one after another
four_at : (text : List ℕ) (at : ℕ) → at + 4 ≤ length text → take 4 (drop at text) ≡ get_or text at 0 ∷ get_or text (at + 1) 0 ∷ get_or text (at + 2) 0 ∷ get_or text (at + 3) 0 ∷ []
four_at [] at within = absurd (omega (arith, within))
four_at (a ∷ text) (suc at) within =
    let one : get_or (a ∷ text) (suc at + 1) 0 ≡ get_or text (at + 1) 0 = rw suc-add refl in
    let two : get_or (a ∷ text) (suc at + 2) 0 ≡ get_or text (at + 2) 0 = rw suc-add refl in
    let three : get_or (a ∷ text) (suc at + 3) 0 ≡ get_or text (at + 3) 0 = rw suc-add refl in
    rw (one, two, three) (four_at text at (omega (arith, within)))
four_at (a ∷ []) zero within = absurd (omega (arith, within))
four_at (a ∷ b ∷ []) zero within = absurd (omega (arith, within))
four_at (a ∷ b ∷ c ∷ []) zero within = absurd (omega (arith, within))
four_at (a ∷ b ∷ c ∷ d ∷ text) zero within = refl

-- a number is of four bytes
four_bytes-back : (text : List ℕ) (at : ℕ) → AreBytes text → at + 4 ≤ length text → to_le_bytes w32 (four_bytes_at text at) ≡ take 4 (drop at text)
four_bytes-back text at bytes within =
    let four = get_or text at 0 ∷ get_or text (at + 1) 0 ∷ get_or text (at + 2) 0 ∷ get_or text (at + 3) 0 ∷ [] in
    le_bytes_4 four _ refl (four-bytes _ _ _ _ (bytes at) (bytes (at + 1)) (bytes (at + 2)) (bytes (at + 3))) refl ∙ sym (four_at text at within)

four_bytes-fits : (text : List ℕ) (at : ℕ) → AreBytes text → four_bytes_at text at < 2 ^ 32
four_bytes-fits text at bytes = omega (arith, bytes at, bytes (at + 1), bytes (at + 2), bytes (at + 3))

-- of the bytes from 0, 4 and 8 on those that are needed are there
front : (text : List ℕ) → 4 ≤ length text → length text ≤ 16
    → take (length text - 4) (take 4 (drop 0 text) ++ take 4 (drop (min (length text - 4) 4) text) ++ take 4 (drop (min (length text - 4) 8) text)) ≡ take (length text - 4) text
front text long short =
    elim (cases_lt 4 (length text - 4)) [
      | inl five ↦
          let eight : take 4 text ++ take 4 (drop 4 text) ≡ take 8 text = sym (take-add 4 4 text) in
          rw (min-eq_right (le_of five), eight)
          (elim (cases_lt 8 (length text - 4)) [
            | inl nine ↦
                rw (min-eq_right (le_of nine), sym (take-add 8 4 text)) (take-take (length text - 4) 12 text (omega arith))
            | inr rest ↦
                let size : length (take 8 text) ≡ 8 = length-take-le 8 text (omega arith) in
                take-append-le (length text - 4) (take 8 text) _ (omega arith) ∙ take-take (length text - 4) 8 text rest
          ])
      | inr few ↦
          let size : length (take 4 text) ≡ 4 = length-take-le 4 text long in
          let next = take 4 (drop (min (length text - 4) 4) text) in
          take-append-le (length text - 4) (take 4 text ++ next) _ (omega (arith, length-append (take 4 text) next))
          ∙ take-append-le (length text - 4) (take 4 text) next (omega arith) ∙ take-take (length text - 4) 4 text few
    ]
  where
    le_of : {n m : ℕ} → n < m → n ≤ m
    le_of {n = n} {m = m} lt = omega arith

back-4 : (text : List ℕ) → AreBytes text → 4 ≤ length text → length text ≤ 16 → text_of (length text) (key_of text) ≡ text
back-4 text bytes long short =
    let one = four_bytes_at text 0 in
    let two = four_bytes_at text (min (length text - 4) 4) in
    let three = four_bytes_at text (min (length text - 4) 8) in
    let four = four_bytes_at text (length text - 4) in
    let key : key_of text ≡ (both one two, both three four) = sym (key-4 text one two three four long refl refl refl refl) in
    let last : length text - (length text - 4) ≡ 4 = omega arith in
    let tail : take 4 (drop (length text - 4) text) ≡ drop (length text - 4) text = ap (λ n. take n (drop (length text - 4) text)) (sym last) ∙ take_rest text (length text - 4) in
    ap (text_of (length text)) key ∙ text_of-4 (length text) one two three four long (four_bytes-fits text 0 bytes) (four_bytes-fits text (min (length text - 4) 8) bytes)
    ∙ ap (λ xs. take (length text - 4) (xs ++ to_le_bytes w32 two ++ to_le_bytes w32 three) ++ to_le_bytes w32 four) (four_bytes-back text 0 bytes (omega arith))
    ∙ ap (λ xs. take (length text - 4) (take 4 (drop 0 text) ++ xs ++ to_le_bytes w32 three) ++ to_le_bytes w32 four) (four_bytes-back text (min (length text - 4) 4) bytes (omega arith))
    ∙ ap (λ xs. take (length text - 4) (take 4 (drop 0 text) ++ take 4 (drop (min (length text - 4) 4) text) ++ xs) ++ to_le_bytes w32 four) (four_bytes-back text (min (length text - 4) 8) bytes (omega arith))
    ∙ ap (λ xs. xs ++ to_le_bytes w32 four) (front text long short)
    ∙ ap (λ xs. take (length text - 4) text ++ xs) (four_bytes-back text (length text - 4) bytes (omega arith) ∙ tail)
    ∙ take-append-drop (length text - 4) text

-- the text of its key is the text
back : (text : List ℕ) → AreBytes text → length text ≤ 16 → text_of (length text) (key_of text) ≡ text
back text bytes short =
    elim (cases_lt (length text) 4) [
      | inl few ↦ back-few text bytes few
      | inr four ↦ back-4 text bytes four short
    ]

pub are-text : (text : List ℕ) → AreBytes text → length text ≤ 16 → IsOfText (length text) (key_of text)
are-text text bytes short =
    let is = back text bytes short in
    record { short = short; long = ap length is; are = ap key_of is }

pub text-back : (text : List ℕ) (key : ℕ × ℕ) → key ≡ key_of text → AreBytes text → length text ≤ 16 → text_of (length text) key ≡ text
text-back text key are bytes short = ap (text_of (length text)) are ∙ back text bytes short

-- ---- which text it is

differ : (xs ys : List ℕ) → (xs ≡ ys → ⊥) → bytes_eq xs ys ≡ false
differ xs ys ne =
    elim (cases_Bool (bytes_eq xs ys)) [
      | inl same ↦ absurd (ne ((bytes_eq-Decides xs ys).0 same))
      | inr other ↦ other
    ]

-- with the same key, the length decides
same-key : (len : ℕ) (key : ℕ × ℕ) (text : List ℕ) → IsOfText len key → AreBytes text → key ≡ key_of text → (len == length text) ≡ bytes_eq (text_of len key) text
same-key len key text are bytes is =
    elim (cases_eq len (length text)) [
      | inl e ↦
          let short : length text ≤ 16 = omega (arith, e, are.short) in
          let same : text_of len key ≡ text = ap (λ n. text_of n key) e ∙ text-back text key is bytes short in
          eq-eqb len (length text) e ∙ sym ((bytes_eq-Decides (text_of len key) text).1 same)
      | inr ne ↦ ne_eqb len (length text) ne ∙ sym (differ _ _ (λ e. ne (sym are.long ∙ ap length e)))
    ]

-- another key is of another text
other-key : (len : ℕ) (key of : ℕ × ℕ) (text : List ℕ) → IsOfText len key → of ≡ key_of text → (key ≡ of → ⊥) → bytes_eq (text_of len key) text ≡ false
other-key len key of text are is ne = differ _ _ (λ e. ne (sym are.are ∙ ap key_of e ∙ sym is))

-- both decide
pub is-text : (len low high : ℕ) (of : ℕ × ℕ) (text : List ℕ) → IsOfText len (low, high) → AreBytes text → of ≡ key_of text
    → ((low == of.0) && (high == of.1) && (len == length text)) ≡ bytes_eq (text_of len (low, high)) text
is-text len low high of text are bytes is =
    elim (cases_eq low of.0) [
      | inl e ↦
          elim (cases_eq high of.1) [
            | inl f ↦
                let same : (low, high) ≡ of = ap (λ n. (n, high)) e ∙ ap (λ n. (of.0, n)) f in
                rw (eq-eqb low of.0 e, eq-eqb high of.1 f) (same-key len (low, high) text are bytes (same ∙ is))
            | inr ne ↦ rw (eq-eqb low of.0 e, ne_eqb high of.1 ne) (sym (other-key len (low, high) of text are is (λ p. ne (ap (λ key. key.1) p))))
          ]
      | inr ne ↦ rw (ne_eqb low of.0 ne) (sym (other-key len (low, high) of text are is (λ p. ne (ap (λ key. key.0) p))))
    ]
