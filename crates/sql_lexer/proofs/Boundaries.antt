-- Where a run of bytes ends, a character ends.
use Rattle.std.proofs.Common.{◌≡◌, ℕ, zero, suc, ◌+◌, ◌-◌, ◌<◌, ◌≤◌, true, false, Bool, List, [], ◌∷◌, length, take, drop, get_or, length-drop, get_or-take, get_or-drop, ⊎_elim, arith, subst}
use Rattle.std.specs.Prelude.{IsCharBoundary, IsUtf8}
use Rattle.std.specs.List.{prefix_len}
use Rattle.std.proofs.lemmas.List.Sums.{prefix_len_passes, prefix_len_stops, prefix_len-le-length}
use Rattle.std.proofs.lemmas.Str.{IsCharBoundary-start, IsCharBoundary-after_ascii, IsUtf8-drop}
use Rattle.std.proofs.lemmas.Bool.{cases_lt}
use Rattle.std.proofs.lemmas.List.{length-take-le}
use Rattle.sql_lexer.specs.Rules.{first}

-- a character ends behind a byte below 128
pub after_ascii : (text : List ℕ) (n : ℕ) → IsUtf8 text → 0 < n → n ≤ length text → get_or text (n - 1) 0 < 128 → IsCharBoundary text n
after_ascii text n utf8 some within ascii =
    let place : n - 1 + 1 ≡ n = omega arith in
    subst (IsCharBoundary text) place (IsCharBoundary-after_ascii text (n - 1) utf8 (omega arith) ascii)

-- no character goes on with this byte
abbrev pub IsLead : ℕ → Type 0
IsLead b = 128 ≤ b → 192 ≤ b

-- a character ends where a run stops at a byte with which none goes on
pub before_lead : (passes : ℕ → Bool) (text : List ℕ) → ((b : ℕ) → passes b ≡ false → IsLead b) → IsCharBoundary text (prefix_len passes text)
before_lead passes text lead =
    (prefix_len-le-length passes text, λ lt high. lead (get_or text (prefix_len passes text) 0) (prefix_len_stops passes text 0 lt) high)

-- a boundary of a text is one of its front
pub in_front : (text : List ℕ) (n k : ℕ) → n ≤ length text → k ≤ n → IsCharBoundary text k → IsCharBoundary (take n text) k
in_front text n k within le boundary =
    let whole = length-take-le n text within in (
      omega (arith, whole),
      λ lt high.
          let before : k < n = omega (arith, whole) in
          let inside : k < length text = omega arith in
          let same = get_or-take n text k 0 before in
          omega (arith, same, boundary.1 inside (omega (arith, same, high))),
    )

-- ---- fronts of ASCII bytes

-- the first n bytes are below 128
pub record IsAsciiFront (text : List ℕ) (n : ℕ) : Type 0 where
  pub within : n ≤ length text
  pub ascii : (i : ℕ) → i < n → get_or text i 0 < 128

pub no_bytes : (text : List ℕ) → IsAsciiFront text 0
no_bytes text = record { within = omega arith; ascii = λ i lt. absurd (omega arith) }

-- the first byte is there, since it isn't 0
pub one_byte : (text : List ℕ) → 0 < first text → first text < 128 → IsAsciiFront text 1
one_byte [] some ascii = absurd (omega arith)
one_byte (b ∷ rest) some ascii = record { within = omega arith; ascii = each }
  where
    each : (i : ℕ) → i < 1 → get_or (b ∷ rest) i 0 < 128
    each zero lt = ascii
    each (suc i) lt = absurd (omega arith)

pub more_bytes : (text : List ℕ) (m n : ℕ) → IsAsciiFront text m → IsAsciiFront (drop m text) n → IsAsciiFront text (m + n)
more_bytes text m n front more = record {
  within = omega (arith, front.within, more.within, length-drop m text);
  ascii = λ i lt. ⊎_elim
      (λ below. front.ascii i below)
      (λ above.
      let place : m + (i - m) ≡ i = omega arith in
      subst (λ k. get_or text k 0 < 128) place (omega (arith, get_or-drop m text (i - m) 0, more.ascii (i - m) (omega arith))))
      (cases_lt i m);
}

-- as many as pass a test
pub run_bytes : (passes : ℕ → Bool) (text : List ℕ) → ((b : ℕ) → passes b ≡ true → b < 128) → IsAsciiFront text (prefix_len passes text)
run_bytes passes text ascii = record {
  within = prefix_len-le-length passes text;
  ascii = λ i lt. ascii (get_or text i 0) (prefix_len_passes passes text i 0 lt);
}

-- a character ends behind each of them
pub after_front : (text : List ℕ) (n k : ℕ) → IsUtf8 text → IsAsciiFront text n → k ≤ n → IsCharBoundary text k
after_front text n zero utf8 front le = IsCharBoundary-start text utf8
after_front text n (suc k) utf8 front le =
    let place : k ≡ suc k - 1 = omega arith in
    after_ascii text (suc k) utf8 (omega arith) (omega (arith, front.within)) (subst (λ i. get_or text i 0 < 128) place (front.ascii k (omega arith)))

-- behind them the text is text
pub rest_is_utf8 : (text : List ℕ) (n : ℕ) → IsUtf8 text → IsAsciiFront text n → IsUtf8 (drop n text)
rest_is_utf8 text n utf8 front = IsUtf8-drop text n utf8 (after_front text n n utf8 front (omega arith))
