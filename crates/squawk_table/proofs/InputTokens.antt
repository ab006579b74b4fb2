-- The raw tokens of the input, and what stands behind the first of them.
use Rattle.std.proofs.Common.{◌≡◌, ◌∙◌, ℕ, zero, suc, ◌<◌, ◌≤◌, List, [], ◌∷◌, length, drop, arith, add-one, ap, sym, refl, ◌⊎◌, inl, inr}
use Rattle.std.proofs.lemmas.Bool.{cases_Bool}
use Rattle.std.proofs.lemmas.List.{drop-drop, length-drop}
use Rattle.squawk_kinds.specs.Kinds.{is_trivia}
use Rattle.squawk_table.specs.ParserInput.{entries_of}
use Rattle.squawk_table.specs.RawTable.{RawToken}
use Rattle.squawk_kinds.specs.Keywords.{Keywords}
use Rattle.squawk_table.specs.Sent.{input_tokens, past_trivia, after_input}

-- an input has an entry for each of them
pub length-entries_of : (contextual : Keywords) (raw : List RawToken) → length (entries_of contextual raw) ≡ length (input_tokens raw)
length-entries_of contextual [] = refl
length-entries_of contextual (r ∷ raw) =
    elim (cases_Bool (is_trivia r.kind)) [
      | inl e ↦ rw e (length-entries_of contextual raw)
      | inr e ↦ rw e (ap suc (length-entries_of contextual raw))
    ]

-- behind trivia at the front stands nothing, or the next token of the input
pub record NextToken (raw : List RawToken) : Type 0 where
  pub token : RawToken
  pub rest : List RawToken
  pub stands : past_trivia raw ≡ token ∷ rest
  pub first : input_tokens raw ≡ token ∷ input_tokens rest

pub next_token : (raw : List RawToken) → NextToken raw ⊎ ((past_trivia raw ≡ []) × (input_tokens raw ≡ []))
next_token [] = inr (refl, refl)
next_token (r ∷ raw) =
    elim (cases_Bool (is_trivia r.kind)) [
      | inl e ↦
          elim (next_token raw) [
            | inl n ↦ inl (record { token = n.token; rest = n.rest; stands = rw e n.stands; first = rw e n.first })
            | inr none ↦ inr (rw e none.0, rw e none.1)
          ]
      | inr e ↦ inl (record { token = r; rest = raw; stands = rw e refl; first = rw e refl })
    ]

input_tokens-next : (raw : List RawToken) → NextToken raw ⊎ ((past_trivia raw ≡ []) × (input_tokens raw ≡ [])) → input_tokens (drop 1 (past_trivia raw)) ≡ drop 1 (input_tokens raw)
input_tokens-next raw (inl n) = ap (λ xs. input_tokens (drop 1 xs)) n.stands ∙ sym (ap (drop 1) n.first)
input_tokens-next raw (inr none) = ap (λ xs. input_tokens (drop 1 xs)) none.0 ∙ sym (ap (drop 1) none.1)

-- behind the first c tokens of the input stand the others
pub input_tokens-after_input : (c : ℕ) (raw : List RawToken) → input_tokens (after_input c raw) ≡ drop c (input_tokens raw)
input_tokens-after_input zero raw = refl
input_tokens-after_input (suc c) raw =
    input_tokens-next (after_input c raw) (next_token (after_input c raw))
    ∙ (ap (drop 1) (input_tokens-after_input c raw) ∙ (drop-drop 1 c (input_tokens raw) ∙ ap (λ n. drop n (input_tokens raw)) (add-one c)))

-- a token of the input after the first c
pub token_after : (c : ℕ) (raw : List RawToken) → c < length (input_tokens raw) → NextToken (after_input c raw)
token_after c raw lt =
    elim (next_token (after_input c raw)) [
      | inl n ↦ n
      | inr none ↦
          let left = sym (input_tokens-after_input c raw) ∙ none.1 in
          absurd (omega (arith, ap length left, length-drop c (input_tokens raw)))
    ]

-- and none after all
pub none_after : (c : ℕ) (raw : List RawToken) → length (input_tokens raw) ≤ c → past_trivia (after_input c raw) ≡ []
none_after c raw le =
    elim (next_token (after_input c raw)) [
      | inl n ↦
          let left = sym (input_tokens-after_input c raw) ∙ n.first in
          absurd (omega (arith, ap length left, length-drop c (input_tokens raw)))
      | inr none ↦ none.0
    ]

-- ---- the same of entries

entries_of-next : (contextual : Keywords) (raw : List RawToken) → entries_of contextual (drop 1 (past_trivia raw)) ≡ drop 1 (entries_of contextual raw)
entries_of-next contextual [] = refl
entries_of-next contextual (r ∷ raw) =
    elim (cases_Bool (is_trivia r.kind)) [ inl e ↦ rw e (entries_of-next contextual raw) | inr e ↦ rw e refl ]

pub entries_of-after_input : (contextual : Keywords) (c : ℕ) (raw : List RawToken) → entries_of contextual (after_input c raw) ≡ drop c (entries_of contextual raw)
entries_of-after_input contextual zero raw = refl
entries_of-after_input contextual (suc c) raw =
    entries_of-next contextual (after_input c raw)
    ∙ (ap (drop 1) (entries_of-after_input contextual c raw) ∙ (drop-drop 1 c (entries_of contextual raw) ∙ ap (λ n. drop n (entries_of contextual raw)) (add-one c)))
