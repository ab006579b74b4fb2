-- Eight bytes are put in lower case as each is.
use Rattle.std.proofs.Common.{◌≡◌, ℕ, ◌+◌, ◌*◌, ◌/◌, ◌%◌, ◌^◌, ◌<◌, ◌≤◌, ◌==◌, zero, suc, true, min, max, refl, sym, ap, ◌∙◌, arith}
use Rattle.std.specs.Char.{to_ascii_lowercase}
use Rattle.std.specs.Prelude.{bit_and, bit_or, bit_xor}
use Rattle.std.specs.Int.Bits.{and_step, or_step, xor_step, block_half, block_odd, differ}
use Rattle.std.proofs.lemmas.Bool.{agree_below_at, eqb-true}
use Rattle.std.proofs.lemmas.Nat.{and_le_r, or_lt, xor_lt}
use Rattle.std.proofs.Math.Nat.{pow-suc}
use Rattle.squawk_keywords.specs.LetterCase.{lowered}

-- ---- bits of a number in two parts

-- an operation on bits works on each part of two numbers alone
module _ (op f : ℕ → ℕ → ℕ) (step : (a b : ℕ) → op a b ≡ op (a / 2) (b / 2) * 2 + f (a % 2) (b % 2)) (none : op 0 0 ≡ 0) where
  regroup : (x p y z : ℕ) → (x * p + y) * 2 + z ≡ x * (p * 2) + (y * 2 + z)
  regroup x p y z = omega arith

  parts : (k a high b other : ℕ) → a < 2 ^ k → b < 2 ^ k → op (high * 2 ^ k + a) (other * 2 ^ k + b) ≡ op high other * 2 ^ k + op a b
  parts zero a high b other fits_a fits_b =
      let no_a : a ≡ 0 = omega arith in
      let no_b : b ≡ 0 = omega arith in
      let left : high * 2 ^ 0 + a ≡ high = omega arith in
      let right : other * 2 ^ 0 + b ≡ other = omega arith in
      let nothing : op a b ≡ 0 = (λ i. op (no_a i) (no_b i)) ∙ none in
      (λ i. op (left i) (right i)) ∙ omega (arith, nothing)
  parts (suc k) a high b other fits_a fits_b =
      let double : 2 ^ suc k ≡ 2 ^ k * 2 = pow-suc 2 k in
      let half_a : a / 2 < 2 ^ k = omega arith in
      let half_b : b / 2 < 2 ^ k = omega arith in
      step (high * 2 ^ suc k + a) (other * 2 ^ suc k + b)
      ∙ (λ i. op (block_half high k a i) (block_half other k b i) * 2 + f (block_odd high k a i) (block_odd other k b i))
      ∙ ap (λ n. n * 2 + f (a % 2) (b % 2)) (parts k (a / 2) high (b / 2) other half_a half_b)
      ∙ regroup (op high other) (2 ^ k) (op (a / 2) (b / 2)) (f (a % 2) (b % 2))
      ∙ ap (λ n. op high other * n + (op (a / 2) (b / 2) * 2 + f (a % 2) (b % 2))) (sym double)
      ∙ ap (λ n. op high other * 2 ^ suc k + n) (sym (step a b))

and-parts : (a high b other : ℕ) → a < 256 → b < 256 → bit_and (high * 256 + a) (other * 256 + b) ≡ bit_and high other * 256 + bit_and a b
and-parts = parts bit_and min and_step refl 8

or-parts : (a high b other : ℕ) → a < 256 → b < 256 → bit_or (high * 256 + a) (other * 256 + b) ≡ bit_or high other * 256 + bit_or a b
or-parts = parts bit_or max or_step refl 8

xor-parts : (a high b other : ℕ) → a < 256 → b < 256 → bit_xor (high * 256 + a) (other * 256 + b) ≡ bit_xor high other * 256 + bit_xor a b
xor-parts = parts bit_xor differ xor_step refl 8

-- ---- as the code does it

-- a byte so many times
abbrev repeated : ℕ → ℕ → ℕ
repeated zero byte = 0
repeated (suc n) byte = repeated n byte * 256 + byte

-- the highest bit of each byte that is a capital letter
abbrev capitals : ℕ → ℕ → ℕ → ℕ → ℕ → ℕ
capitals x low from past high = bit_and (bit_xor (bit_or (bit_and x low + from) x) (bit_or (bit_and x low + past) x)) high

-- bytes with bit 5 of the capital letters set
abbrev with_bits : ℕ → ℕ → ℕ → ℕ → ℕ → ℕ
with_bits x low from past high = bit_or x (capitals x low from past high / 4)

-- one byte
byte-lower : (b : ℕ) → b < 256 → with_bits b 127 63 37 128 ≡ to_ascii_lowercase b
byte-lower b small = eqb-true _ _ (agree_below_at (λ n. with_bits n 127 63 37 128 == to_ascii_lowercase n) (λ n. true) 256 b refl small)

-- the highest bits of bytes are a number of fours
and-fours : (z n : ℕ) → bit_and z (repeated n 128) % 4 ≡ 0
and-fours z n =
    let m = repeated n 128 in
    let four : m % 4 ≡ 0 = fours n in
    let even : m % 2 ≡ 0 = omega arith in
    let half : m / 2 % 2 ≡ 0 = omega arith in
    let one : bit_and z m ≡ bit_and (z / 2) (m / 2) * 2 + min (z % 2) (m % 2) = and_step z m in
    let two : bit_and (z / 2) (m / 2) ≡ bit_and (z / 2 / 2) (m / 2 / 2) * 2 + min (z / 2 % 2) (m / 2 % 2) = and_step (z / 2) (m / 2) in
    omega arith
  where
    fours : (n : ℕ) → repeated n 128 % 4 ≡ 0
    fours zero = refl
    fours (suc n) = omega (arith, fours n)

-- a byte and the bytes above it
with_bits-step : (n b high : ℕ) → b < 256
    → with_bits (high * 256 + b) (repeated (suc n) 127) (repeated (suc n) 63) (repeated (suc n) 37) (repeated (suc n) 128)
    ≡ with_bits high (repeated n 127) (repeated n 63) (repeated n 37) (repeated n 128) * 256 + with_bits b 127 63 37 128
with_bits-step n b high small =
    let low = repeated n 127 in
    let from = repeated n 63 in
    let past = repeated n 37 in
    let top = repeated n 128 in
    let l = bit_and high low in
    let k = bit_and b 127 in
    let few : k ≤ 127 = and_le_r b 127 in
    let kept : bit_and (high * 256 + b) (low * 256 + 127) ≡ l * 256 + k = and-parts b high 127 low small (omega arith) in
    let add_from : bit_and (high * 256 + b) (low * 256 + 127) + (from * 256 + 63) ≡ (l + from) * 256 + (k + 63) = omega (arith, kept) in
    let add_past : bit_and (high * 256 + b) (low * 256 + 127) + (past * 256 + 37) ≡ (l + past) * 256 + (k + 37) = omega (arith, kept) in
    let fits_from : bit_or (k + 63) b < 256 = or_lt 8 (k + 63) b (omega (arith, few)) small in
    let fits_past : bit_or (k + 37) b < 256 = or_lt 8 (k + 37) b (omega (arith, few)) small in
    let one : bit_or (bit_and (high * 256 + b) (low * 256 + 127) + (from * 256 + 63)) (high * 256 + b) ≡ bit_or (l + from) high * 256 + bit_or (k + 63) b =
    ap (λ n. bit_or n (high * 256 + b)) add_from ∙ or-parts (k + 63) (l + from) b high (omega (arith, few)) small in
    let two : bit_or (bit_and (high * 256 + b) (low * 256 + 127) + (past * 256 + 37)) (high * 256 + b) ≡ bit_or (l + past) high * 256 + bit_or (k + 37) b =
    ap (λ n. bit_or n (high * 256 + b)) add_past ∙ or-parts (k + 37) (l + past) b high (omega (arith, few)) small in
    let all = capitals high low from past top in
    let here = capitals b 127 63 37 128 in
    let caps : capitals (high * 256 + b) (low * 256 + 127) (from * 256 + 63) (past * 256 + 37) (top * 256 + 128) ≡ all * 256 + here =
    ap (λ n. bit_and n (top * 256 + 128)) ((λ i. bit_xor (one i) (two i)) ∙ xor-parts (bit_or (k + 63) b) (bit_or (l + from) high) (bit_or (k + 37) b) (bit_or (l + past) high) fits_from fits_past)
    ∙ and-parts (bit_xor (bit_or (k + 63) b) (bit_or (k + 37) b)) (bit_xor (bit_or (l + from) high) (bit_or (l + past) high)) 128 top
    (xor_lt 8 (bit_or (k + 63) b) (bit_or (k + 37) b) fits_from fits_past) (omega arith) in
    let four : all % 4 ≡ 0 = and-fours (bit_xor (bit_or (l + from) high) (bit_or (l + past) high)) n in
    let little : here ≤ 128 = and_le_r (bit_xor (bit_or (k + 63) b) (bit_or (k + 37) b)) 128 in
    let quarter : (all * 256 + here) / 4 ≡ (all / 4) * 256 + here / 4 = omega (arith, four) in
    ap (bit_or (high * 256 + b)) (ap (λ n. n / 4) caps ∙ quarter) ∙ or-parts b high (here / 4) (all / 4) small (omega (arith, little))

-- and so all bytes
with_bits-lowered : (n x : ℕ) → x < 256 ^ n → with_bits x (repeated n 127) (repeated n 63) (repeated n 37) (repeated n 128) ≡ lowered n x
unfolding lowered
with_bits-lowered zero x none = let is : x ≡ 0 = omega arith in ap (λ n. with_bits n 0 0 0 0) is
with_bits-lowered (suc n) x fits =
    let more : 256 ^ suc n ≡ 256 ^ n * 256 = pow-suc 256 n in
    let high : x / 256 < 256 ^ n = omega arith in
    let whole : x ≡ x / 256 * 256 + x % 256 = omega arith in
    let small : x % 256 < 256 = omega arith in
    ap (λ y. with_bits y (repeated (suc n) 127) (repeated (suc n) 63) (repeated (suc n) 37) (repeated (suc n) 128)) whole
    ∙ with_bits-step n (x % 256) (x / 256) small
    ∙ (λ i. with_bits-lowered n (x / 256) high i * 256 + byte-lower (x % 256) small i)
    ∙ omega arith

pub lower_case-lowered : (x : ℕ) → x < 2 ^ 64
    → bit_or x (bit_and (bit_xor (bit_or (bit_and x 0x7f7f_7f7f_7f7f_7f7f + 0x3f3f_3f3f_3f3f_3f3f) x) (bit_or (bit_and x 0x7f7f_7f7f_7f7f_7f7f + 0x2525_2525_2525_2525) x)) 0x8080_8080_8080_8080 / 4)
    ≡ lowered 8 x
lower_case-lowered x fits = with_bits-lowered 8 x fits
