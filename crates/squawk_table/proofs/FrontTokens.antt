-- The raw tokens under one token of a walk.
use Rattle.std.proofs.Common.{◌≡◌, ◌∙◌, ℕ, zero, suc, ◌+◌, ◌-◌, ◌<◌, ◌≤◌, true, false, List, [], ◌∷◌, length, take, drop, get_or, slice_index, arith, add-one, add-zero, ap, sym, subst, refl, inl, inr}
use Rattle.std.proofs.lemmas.Bool.{cases_Bool, not-true, not_from_false}
use Rattle.std.proofs.lemmas.List.{drop-drop, get_or-take, length-take-le, take-take}
use Rattle.std.proofs.lemmas.List.Elements.{All-cons, All-take}
use Rattle.squawk_kinds.specs.Keywords.{Keywords}
use Rattle.squawk_kinds.specs.Kinds.{is_trivia}
use Rattle.squawk_table.specs.ParserInput.{entries_of, is_followed, is_joint_in}
use Rattle.squawk_table.specs.RawTable.{Table, RawToken, raw_at, raw_after}
use Rattle.squawk_table.specs.Sent.{after_input, input_tokens, past_trivia, HasNoTrivia}
use Rattle.squawk_table.specs.Shape.{AreOneToken}
use Rattle.squawk_table.proofs.RawTokens.{raw_after-next, raw_after-end}

-- n raw tokens are there, at least one, and none of them is trivia
pub record FrontTokens (n : ℕ) (raws : List RawToken) : Type 0 where
  pub some : 1 ≤ n
  pub there : n ≤ length raws
  pub input : HasNoTrivia (take n raws)

first : (r : RawToken) (raws : List RawToken) → HasNoTrivia (r ∷ raws) → is_trivia r.kind ≡ false
first r raws input = input 0 r (omega arith)

others : (r : RawToken) (raws : List RawToken) → HasNoTrivia (r ∷ raws) → HasNoTrivia raws
others r raws input = λ k d lt. input (suc k) d (omega arith)

module _ (contextual : Keywords) where
  -- raw tokens that aren't trivia are the first of the input
  pub drop-entries_of : (n : ℕ) (raws : List RawToken) → n ≤ length raws → HasNoTrivia (take n raws) → drop n (entries_of contextual raws) ≡ entries_of contextual (drop n raws)
  drop-entries_of zero raws le input = refl
  drop-entries_of (suc n) [] le input = refl
  drop-entries_of (suc n) (r ∷ raws) le input = rw (first r (take n raws) input) (drop-entries_of n raws (omega arith) (others r (take n raws) input))

  length-front : (n : ℕ) (raws : List RawToken) → n ≤ length raws → HasNoTrivia (take n raws) → n ≤ length (entries_of contextual raws)
  length-front zero raws le input = omega arith
  length-front (suc n) [] le input = absurd (omega arith)
  length-front (suc n) (r ∷ raws) le input = rw (first r (take n raws) input) (omega (arith, length-front n raws (omega arith) (others r (take n raws) input)))

  followed : (n : ℕ) (raws : List RawToken) → 0 < n → n ≤ length raws → HasNoTrivia (take n raws) → is_followed raws ≡ true
  followed zero raws some le input = absurd (omega arith)
  followed (suc n) [] some le input = absurd (omega arith)
  followed (suc n) (r ∷ raws) some le input = not_from_false (is_trivia r.kind) (first r (take n raws) input)

  touch-front : (n : ℕ) (raws : List RawToken) → n ≤ length raws → HasNoTrivia (take n raws) → (i : ℕ) → i + 1 < n → is_joint_in (entries_of contextual raws) i ≡ true
  touch-front zero raws le input i lt = absurd (omega arith)
  touch-front (suc n) [] le input i lt = absurd (omega arith)
  touch-front (suc n) (r ∷ raws) le input zero lt = rw (first r (take n raws) input) (followed n raws (omega arith) (omega arith) (others r (take n raws) input))
  touch-front (suc n) (r ∷ raws) le input (suc i) lt = rw (first r (take n raws) input) (touch-front n raws (omega arith) (others r (take n raws) input) i (omega arith))

  -- they are one token
  pub AreOneToken-front : (n : ℕ) (raws : List RawToken) → FrontTokens n raws → AreOneToken n (entries_of contextual raws)
  AreOneToken-front n raws front = record {
    some = front.some;
    there = length-front n raws front.there front.input;
    touch = touch-front n raws front.there front.input;
  }

  -- and between joint tokens of the input stands no trivia
  touching : (n : ℕ) (raws : List RawToken) → is_followed raws ≡ true → AreOneToken (suc n) (entries_of contextual raws) → (suc n ≤ length raws) × HasNoTrivia (take (suc n) raws)
  touching n [] begins one = absurd (omega (arith, one.there))
  touching zero (r ∷ raws) begins one =
      (omega arith, All-cons (λ r. is_trivia r.kind ≡ false) r [] (not-true (is_trivia r.kind) begins) (λ k d lt. absurd (omega arith)))
  touching (suc n) (r ∷ raws) begins one =
      let input : is_trivia r.kind ≡ false = not-true (is_trivia r.kind) begins in
      let here = rw input at one in
      let behind = touching n raws (here.touch 0 (omega arith))
      (record { some = omega arith; there = omega (arith, here.there); touch = λ i lt. here.touch (suc i) (omega arith) }) in
      (omega (arith, behind.0), All-cons (λ r. is_trivia r.kind ≡ false) r (take (suc n) raws) input behind.1)

  pub entries_of-past_trivia : (raws : List RawToken) → entries_of contextual (past_trivia raws) ≡ entries_of contextual raws
  entries_of-past_trivia [] = refl
  entries_of-past_trivia (r ∷ raws) =
      elim (cases_Bool (is_trivia r.kind)) [ inl e ↦ rw e (entries_of-past_trivia raws) | inr e ↦ rw (e, e) refl ]

  begins_past : (raws : List RawToken) → 0 < length (entries_of contextual raws) → is_followed (past_trivia raws) ≡ true
  begins_past [] some = absurd (omega arith)
  begins_past (r ∷ raws) some =
      elim (cases_Bool (is_trivia r.kind)) [
        | inl e ↦ rw e (begins_past raws (rw e at some))
        | inr e ↦ rw (e, e) refl
      ]

  pub FrontTokens-one : (n : ℕ) (raws : List RawToken) → AreOneToken n (entries_of contextual raws) → FrontTokens n (past_trivia raws)
  FrontTokens-one zero raws one = absurd (omega (arith, one.some))
  FrontTokens-one (suc n) raws one =
      let begins = begins_past raws (omega (arith, one.there)) in
      let front = touching n (past_trivia raws) begins (rw (entries_of-past_trivia raws) one) in
      record { some = one.some; there = front.0; input = front.1 }

  pub one-FrontTokens : (n : ℕ) (raws : List RawToken) → FrontTokens n (past_trivia raws) → AreOneToken n (entries_of contextual raws)
  one-FrontTokens n raws front = rw (entries_of-past_trivia raws) at (AreOneToken-front n (past_trivia raws) front)

-- ---- behind them

-- they are raw tokens of the input themselves
pub take-input_tokens : (n : ℕ) (raws : List RawToken) → HasNoTrivia (take n raws) → take n (input_tokens raws) ≡ take n raws
take-input_tokens zero raws input = refl
take-input_tokens (suc n) [] input = refl
take-input_tokens (suc n) (r ∷ raws) input =
    rw (first r (take n raws) input) (ap (λ xs. r ∷ xs) (take-input_tokens n raws (others r (take n raws) input)))

past_input : (raws : List RawToken) (k : ℕ) → k < length raws → HasNoTrivia (take (suc k) raws) → past_trivia (drop k raws) ≡ drop k raws
past_input [] k lt input = absurd (omega arith)
past_input (r ∷ raws) zero lt input = rw (first r [] input) refl
past_input (r ∷ raws) (suc k) lt input = past_input raws k (omega arith) (others r (take (suc k) raws) input)

-- what stands behind them is what stands behind so many tokens of the input
pub after_input-front : (k c : ℕ) (raws : List RawToken) → suc k ≤ length (past_trivia (after_input c raws)) → HasNoTrivia (take (suc k) (past_trivia (after_input c raws)))
    → after_input (c + suc k) raws ≡ drop (suc k) (past_trivia (after_input c raws))
after_input-front zero c raws le input = ap (λ n. after_input n raws) (add-one c)
after_input-front (suc k) c raws le input =
    let front = past_trivia (after_input c raws) in
    let shorter : HasNoTrivia (take (suc k) front) =
    subst HasNoTrivia (take-take (suc k) (suc (suc k)) front (omega arith)) (All-take (λ r. is_trivia r.kind ≡ false) (suc k) (take (suc (suc k)) front) input) in
    let more : c + suc (suc k) ≡ suc (c + suc k) = omega arith in
    ap (λ n. after_input n raws) more
    ∙ (ap (λ xs. drop 1 (past_trivia xs)) (after_input-front k c raws (omega arith) shorter)
    ∙ (ap (drop 1) (past_input front (suc k) (omega arith) input) ∙ (drop-drop 1 (suc k) front ∙ ap (λ n. drop n front) (add-one (suc k)))))

-- ---- from a raw token of a table on

pub length-raw_after : (t : Table) (n raw : ℕ) → raw + n ≡ length t.kinds → length (raw_after t raw) ≡ n
length-raw_after t zero raw all = ap length (raw_after-end t raw (omega arith))
length-raw_after t (suc n) raw all = ap length (raw_after-next t raw (omega arith)) ∙ ap suc (length-raw_after t n (raw + 1) (omega arith))

pub raw_after-add : (t : Table) (n raw : ℕ) → raw + n ≤ length t.kinds → raw_after t (raw + n) ≡ drop n (raw_after t raw)
raw_after-add t zero raw le = ap (raw_after t) (add-zero raw)
raw_after-add t (suc n) raw le =
    let same : raw + suc n ≡ (raw + 1) + n = omega arith in
    ap (raw_after t) same ∙ (raw_after-add t n (raw + 1) (omega arith) ∙ sym (ap (drop (suc n)) (raw_after-next t raw (omega arith))))

get_or-raw_after : (t : Table) (k raw : ℕ) (d : RawToken) → raw + k < length t.kinds → get_or (raw_after t raw) k d ≡ raw_at t (raw + k)
get_or-raw_after t zero raw d lt = ap (λ raws. get_or raws 0 d) (raw_after-next t raw (omega arith)) ∙ ap (raw_at t) (sym (add-zero raw))
get_or-raw_after t (suc k) raw d lt =
    let same : (raw + 1) + k ≡ raw + suc k = omega arith in
    ap (λ raws. get_or raws (suc k) d) (raw_after-next t raw (omega arith)) ∙ (get_or-raw_after t k (raw + 1) d (omega arith) ∙ ap (raw_at t) same)

module _ (t : Table) (n raw : ℕ) (within : raw + n ≤ length t.kinds) where
  length-here : length (take n (raw_after t raw)) ≡ n
  length-here = length-take-le n (raw_after t raw) (omega (arith, length-raw_after t (length t.kinds - raw) raw (omega arith)))

  get_or-here : (k : ℕ) (d : RawToken) → k < n → get_or (take n (raw_after t raw)) k d ≡ raw_at t (raw + k)
  get_or-here k d lt = get_or-take n (raw_after t raw) k d lt ∙ get_or-raw_after t k raw d (omega arith)

  -- the same by the kinds
  pub HasNoTrivia-kinds : ((k : ℕ) → raw ≤ k → k < raw + n → is_trivia (slice_index t.kinds k) ≡ false) → HasNoTrivia (take n (raw_after t raw))
  HasNoTrivia-kinds clear = λ k d lt.
      let low : k < n = omega (arith, length-here) in
      rw (get_or-here k d low) (clear (raw + k) (omega arith) (omega arith))

  pub kinds-HasNoTrivia : HasNoTrivia (take n (raw_after t raw)) → (k : ℕ) → raw ≤ k → k < raw + n → is_trivia (slice_index t.kinds k) ≡ false
  kinds-HasNoTrivia input k ge lt =
      let low : k - raw < n = omega arith in
      let same : raw + (k - raw) ≡ k = omega arith in
      let here = input (k - raw) (raw_at t k) (omega (arith, length-here)) in
      sym (ap (λ r. is_trivia r.kind) (get_or-here (k - raw) (raw_at t k) low ∙ ap (raw_at t) same)) ∙ here
