-- Trivia at the front of raw tokens, and what stands behind it.
use Rattle.std.proofs.Common.{◌≡◌, ℕ, ◌+◌, ◌<◌, true, false, List, [], ◌∷◌, ◌++◌, length, slice_index, ap, refl, inl, inr}
use Rattle.std.proofs.lemmas.Bool.{cases_Bool}
use Rattle.squawk_kinds.specs.Kinds.{is_trivia}
use Rattle.squawk_table.specs.RawTable.{Table, RawToken, raw_at, raw_after}
use Rattle.squawk_table.specs.Sent.{input_tokens, leading_trivia, past_trivia}
use Rattle.squawk_table.proofs.RawTokens.{raw_after-next}

-- the trivia at the front and what stands behind it are all
pub leading_trivia-append-past_trivia : (raw : List RawToken) → leading_trivia raw ++ past_trivia raw ≡ raw
leading_trivia-append-past_trivia [] = refl
leading_trivia-append-past_trivia (r ∷ raw) =
    elim (cases_Bool (is_trivia r.kind)) [
      | inl e ↦ rw e (ap (λ xs. r ∷ xs) (leading_trivia-append-past_trivia raw))
      | inr e ↦ rw e refl
    ]

pub past_trivia-past_trivia : (raw : List RawToken) → past_trivia (past_trivia raw) ≡ past_trivia raw
past_trivia-past_trivia [] = refl
past_trivia-past_trivia (r ∷ raw) =
    elim (cases_Bool (is_trivia r.kind)) [ inl e ↦ rw e (past_trivia-past_trivia raw) | inr e ↦ rw (e, e) refl ]

-- behind the trivia stands none
pub leading_trivia-past_trivia : (raw : List RawToken) → leading_trivia (past_trivia raw) ≡ []
leading_trivia-past_trivia [] = refl
leading_trivia-past_trivia (r ∷ raw) =
    elim (cases_Bool (is_trivia r.kind)) [ inl e ↦ rw e (leading_trivia-past_trivia raw) | inr e ↦ rw (e, e) refl ]

pub input_tokens-past_trivia : (raw : List RawToken) → input_tokens (past_trivia raw) ≡ input_tokens raw
input_tokens-past_trivia [] = refl
input_tokens-past_trivia (r ∷ raw) =
    elim (cases_Bool (is_trivia r.kind)) [ inl e ↦ rw e (input_tokens-past_trivia raw) | inr e ↦ rw (e, e) refl ]

-- ---- from a raw token of a table on

module _ (t : Table) (i : ℕ) (lt : i < length t.kinds) (trivia : is_trivia (slice_index t.kinds i) ≡ true) where
  pub leading_trivia-more : leading_trivia (raw_after t i) ≡ raw_at t i ∷ leading_trivia (raw_after t (i + 1))
  leading_trivia-more = rw (raw_after-next t i lt, trivia) refl

  pub past_trivia-more : past_trivia (raw_after t i) ≡ past_trivia (raw_after t (i + 1))
  past_trivia-more = rw (raw_after-next t i lt, trivia) refl

-- at a raw token that is none, nothing is left out
pub past_trivia-here : (t : Table) (i : ℕ) → i < length t.kinds → is_trivia (slice_index t.kinds i) ≡ false → past_trivia (raw_after t i) ≡ raw_after t i
past_trivia-here t i lt e = rw (raw_after-next t i lt, e) refl
