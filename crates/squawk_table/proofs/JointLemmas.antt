-- Bits in words of 64 bits: none set, one more set, and the first of them.
use Rattle.std.proofs.Common.{◌≡◌, ◌∙◌, ℕ, ◌*◌, ◌/◌, ◌%◌, ◌^◌, ◌<◌, ◌≤◌, ◌==◌, ◌≢◌, Bool, true, false, List, length, get_or, set, take, replicate, bit_or, bit_and, arith, ap, sym, refl, inl, inr, zero-add, zero-mul, get_or-set_same, get_or-set_other, length-set}
use Rattle.std.specs.Int.{bit_at, div_ceil, from_bool, w64}
use Rattle.std.specs.Int.Bits.{or_zero_r}
use Rattle.std.proofs.Math.ListN.{get_or-eq_default}
use Rattle.std.proofs.lemmas.Bool.{cases_eq, cases_lt}
use Rattle.std.proofs.lemmas.List.{set-get_or, get_or_read_under, get_or-replicate, get_or-take, length-replicate, length-take-le}
use Rattle.std.proofs.lemmas.List.FromFn.{fill_by_all, length-map-range_with_len, get_or-map-range_with_len}
use Rattle.std.proofs.lemmas.Nat.Bits.{shr_and_one, bit_at-zero, bit_at_set_same, bit_at_set_other}
use Rattle.squawk_table.specs.JointBits.{IsPacked, bits_of, is_set}

pub length-bits_of : (words : List ℕ) (n : ℕ) → length (bits_of words n) ≡ n
length-bits_of words n = length-map-range_with_len (is_set words) 0 n

get_or-bits_of : (words : List ℕ) (n k : ℕ) → k < n → get_or (bits_of words n) k false ≡ is_set words k
get_or-bits_of words n k lt = get_or-map-range_with_len (is_set words) 0 n k k false lt (zero-add k)

-- what the code tests
pub shifted_bit : (words : List ℕ) (n k : ℕ) → k < n → (bit_and (get_or words (k / 64) 0 / 2 ^ (k % 64)) 1 == 1) ≡ get_or (bits_of words n) k false
shifted_bit words n k lt =
    ap (λ bit. bit == 1) (shr_and_one (get_or words (k / 64) 0) (k % 64))
    ∙ sym (get_or-bits_of words n k lt)

zero_unset : (words : List ℕ) (k : ℕ) → get_or words (k / 64) 0 ≡ 0 → is_set words k ≡ false
zero_unset words k zero = ap (λ word. bit_at word (k % 64) == 1) zero ∙ ap (λ bit. bit == 1) (bit_at-zero (k % 64))

past_unset : (words : List ℕ) (k : ℕ) → length words ≤ k / 64 → is_set words k ≡ false
past_unset words k le = zero_unset words k (get_or-eq_default words 0 le)

-- words of zeros have no bit set
zeros_unset : (m k : ℕ) → is_set (replicate m 0) k ≡ false
zeros_unset m k =
    elim (cases_lt (k / 64) m) [
      | inl lt ↦ zero_unset (replicate m 0) k (get_or-replicate m (k / 64) 0 0 lt)
      | inr le ↦ past_unset (replicate m 0) k (omega (arith, length-replicate {A = ℕ}, le))
    ]

pub zeros_bits : (m n : ℕ) → bits_of (replicate m 0) n ≡ replicate n false
zeros_bits m n =
    sym (fill_by_all (is_set (replicate m 0)) (replicate n false) n false (length-replicate n false)
    (λ k lt. get_or-replicate n k false false lt ∙ sym (zeros_unset m k)))

-- the words with bit n set, or as they are
abbrev pub with_bit : Bool → List ℕ → ℕ → List ℕ
with_bit bit words n = set words (n / 64) (bit_or (get_or words (n / 64) 0) (from_bool bit * 2 ^ (n % 64) % 18446744073709551616))

with_bit-false : (words : List ℕ) (n : ℕ) → with_bit false words n ≡ words
with_bit-false words n = rw (zero-mul (2 ^ (n % 64)), or_zero_r (get_or words (n / 64) 0)) (set-get_or words (n / 64) 0)

with_bit-same : (bit : Bool) (words : List ℕ) (n : ℕ) → n / 64 < length words → is_set words n ≡ false → is_set (with_bit bit words n) n ≡ bit
with_bit-same true words n lt free =
    let set : bit_at (get_or (with_bit true words n) (n / 64) 0) (n % 64) ≡ 1 =
    rw get_or-set_same (bit_at_set_same w64 (get_or words (n / 64) 0) (n % 64) (omega arith)) in
    ap (λ bit. bit == 1) set
with_bit-same false words n lt free = ap (λ words. is_set words n) (with_bit-false words n) ∙ free

with_bit-other : (bit : Bool) (words : List ℕ) (n k : ℕ) → n / 64 < length words → k ≢ n → is_set (with_bit bit words n) k ≡ is_set words k
with_bit-other true words n k lt ne =
    elim (cases_eq (k / 64) (n / 64)) [
      | inl e ↦
          let other : k % 64 ≢ n % 64 = λ h. ne (omega arith) in
          let same : bit_at (get_or (with_bit true words n) (k / 64) 0) (k % 64) ≡ bit_at (get_or words (k / 64) 0) (k % 64) =
          rw (e, get_or-set_same) (bit_at_set_other w64 (get_or words (n / 64) 0) (n % 64) (omega arith) (k % 64) other) in
          ap (λ bit. bit == 1) same
      | inr away ↦ ap (λ word. bit_at word (k % 64) == 1) (get_or-set_other words (n / 64) (k / 64) _ 0 away)
    ]
with_bit-other false words n k lt ne = ap (λ words. is_set words k) (with_bit-false words n)

module _ (words : List ℕ) (n k : ℕ) (packed : IsPacked words n) (lt : k < n) (free : get_or (bits_of words n) k false ≡ false) (bit : Bool) where
  within : k / 64 < length words
  within = omega (arith, packed.count, lt)

  with_bit-packed : IsPacked (with_bit bit words k) n
  with_bit-packed = record {
    count = length-set words _ _ ∙ packed.count;
    unused = λ j le. with_bit-other bit words k j within (λ e. absurd (omega arith)) ∙ packed.unused j le;
  }

  with_bit-bits : bits_of (with_bit bit words k) n ≡ set (bits_of words n) k bit
  with_bit-bits =
      let bits = bits_of words n in
      let len = length-bits_of words n in
      let before : is_set words k ≡ false = sym (get_or-bits_of words n k lt) ∙ free in
      let at : (j : ℕ) → j < n → get_or (set bits k bit) j false ≡ is_set (with_bit bit words k) j = λ j below.
      elim (cases_eq j k) [
        | inl e ↦ rw (e, get_or-set_same bits k bit false (omega (arith, len, lt))) (sym (with_bit-same bit words k within before))
        | inr ne ↦ get_or-set_other bits k j bit false ne ∙ (get_or-bits_of words n j below ∙ sym (with_bit-other bit words k j within ne))
      ] in
      sym (fill_by_all (is_set (with_bit bit words k)) (set bits k bit) n false (length-set bits k bit ∙ len) at)

  -- the code's `|=`, at the word that it reads and the number that it makes of the bit
  module _ (word number : ℕ) (here : word ≡ get_or words (k / 64) word) (from : number ≡ from_bool bit) where
    abbrev written : List ℕ
    written = set words (k / 64) (bit_or word (number * 2 ^ (k % 64) % 18446744073709551616))

    is_with_bit : written ≡ with_bit bit words k
    is_with_bit =
        let read = get_or_read_under words (k / 64) (length words) word 0 here within refl in
        rw (read, from) refl

    pub written_packed : IsPacked written n
    written_packed = rw is_with_bit with_bit-packed

    pub written_bits : bits_of written n ≡ set (bits_of words n) k bit
    written_bits = rw is_with_bit with_bit-bits

-- the words that m of n bits need, where none of the rest is set
module _ (words : List ℕ) (n m : ℕ) (packed : IsPacked words n) (le : m ≤ n) (rest : (k : ℕ) → m ≤ k → get_or (bits_of words n) k false ≡ false) where
  abbrev front : List ℕ
  front = take (div_ceil m 64) words

  length-front : length front ≡ div_ceil m 64
  length-front = length-take-le (div_ceil m 64) words (omega (arith, packed.count, le))

  front-inside : (k : ℕ) → k / 64 < div_ceil m 64 → is_set front k ≡ is_set words k
  front-inside k lt = ap (λ word. bit_at word (k % 64) == 1) (get_or-take (div_ceil m 64) words (k / 64) 0 lt)

  unset : (k : ℕ) → m ≤ k → is_set words k ≡ false
  unset k from =
      elim (cases_lt k n) [
        | inl lt ↦ sym (get_or-bits_of words n k lt) ∙ rest k from
        | inr past ↦ packed.unused k past
      ]

  front-unset : (k : ℕ) → m ≤ k → is_set front k ≡ false
  front-unset k from =
      elim (cases_lt (k / 64) (div_ceil m 64)) [
        | inl lt ↦ front-inside k lt ∙ unset k from
        | inr past ↦ past_unset front k (omega (arith, length-front, past))
      ]

  pub front_packed : IsPacked front m
  front_packed = record { count = length-front; unused = front-unset }

  pub front_bits : bits_of front m ≡ take m (bits_of words n)
  front_bits =
      let bits = bits_of words n in
      let at : (k : ℕ) → k < m → get_or (take m bits) k false ≡ is_set front k = λ k lt. get_or-take m bits k false lt ∙ (get_or-bits_of words n k (omega (arith, lt, le)) ∙ sym (front-inside k (omega (arith, lt)))) in
      sym (fill_by_all (is_set front) (take m bits) m false (length-take-le m bits (omega (arith, length-bits_of words n, le))) at)
