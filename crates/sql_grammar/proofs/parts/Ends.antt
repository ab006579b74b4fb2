-- Where the nodes of a text end.
use Rattle.std.proofs.Common.{◌≡◌, ◌∙◌, ℕ, zero, suc, ◌+◌, ◌-◌, ◌<◌, ◌≤◌, Bool, true, false, List, [], ◌∷◌, ◌++◌, length, map, slice_index, if◌then◌else◌, inl, inr, arith, ap, sym, subst, refl}
use Rattle.std.proofs.lemmas.Bool.{cases_lt}
use Rattle.squawk_kinds.specs.Kinds.{is_trivia}
use Rattle.squawk_output.specs.Steps.{Step, Token, Enter, Exit, Error}
use Rattle.squawk_table.specs.RawTable.{RawToken, Table, raw_after, raw_at, raw_from}
use Rattle.squawk_table.specs.Sending.{HaveTokens, end_from, raw_here, sent_from}
use Rattle.squawk_table.specs.Sent.{errors_moved, leading_trivia, sent_raw}
use Rattle.squawk_table.specs.declared.shortcuts.str_step.OwnedStep.TheVariants as sent
use Rattle.squawk_table.proofs.RawTokens.{raw_after-end}
use Rattle.sql_grammar.proofs.parts.Sending.{depth-moved, depth_after, end-append, inner_end, inner_sent, moved-append, root_sent, tokens-front}

-- ---- trivia at the end

few_trivia : (xs : List RawToken) (r : RawToken) → is_trivia r.kind ≡ false → length (leading_trivia (xs ++ r ∷ [])) ≤ length xs
few_trivia [] r e = let none : leading_trivia (r ∷ []) ≡ [] = rw e refl in omega (arith, ap length none)
few_trivia (x ∷ xs) r e = cases (is_trivia x.kind) (few_trivia xs r e)
  where
    cases : (b : Bool) → length (leading_trivia (xs ++ r ∷ [])) ≤ length xs → length (if b then x ∷ leading_trivia (xs ++ r ∷ []) else []) ≤ suc (length xs)
    cases true le = omega (arith, le)
    cases false le = omega arith

last_raw : (t : Table) (i n : ℕ) → raw_from t i (suc n) ≡ raw_from t i n ++ raw_at t (i + n) ∷ []
last_raw t i zero = let same : i + 0 ≡ i = omega arith in ap (λ m. raw_at t m ∷ []) (sym same)
last_raw t i (suc n) =
    let same : i + 1 + n ≡ i + suc n = omega arith in
    ap (λ rs. raw_at t i ∷ rs) (last_raw t (i + 1) n ∙ ap (λ m. raw_from t (i + 1) n ++ raw_at t m ∷ []) same)

length-raws : (t : Table) (i n : ℕ) → length (raw_from t i n) ≡ n
length-raws t i zero = refl
length-raws t i (suc n) = ap suc (length-raws t (i + 1) n)

module _ (t : Table) (ends : (0 < length t.kinds) × (is_trivia (slice_index t.kinds (length t.kinds - 1)) ≡ false)) where
  less_trivia : (i : ℕ) → i < length t.kinds → i + length (leading_trivia (raw_after t i)) < length t.kinds
  less_trivia i lt =
      let n = length t.kinds - i - 1 in
      let count : length t.kinds - i ≡ suc n = omega (arith, lt) in
      let place : i + n ≡ length t.kinds - 1 = omega (arith, lt) in
      let all : raw_after t i ≡ raw_from t i n ++ raw_at t (length t.kinds - 1) ∷ [] =
      ap (raw_from t i) count ∙ (last_raw t i n ∙ ap (λ m. raw_from t i n ++ raw_at t m ∷ []) place) in
      let few = few_trivia (raw_from t i n) (raw_at t (length t.kinds - 1)) ends.1 in
      omega (arith, lt, ap (λ rs. length (leading_trivia rs)) all, few, length-raws t i n)

  -- so what ends with trivia at the end of the table has none
  none_before : (i : ℕ) → i ≤ length t.kinds → i + length (leading_trivia (raw_after t i)) ≡ length t.kinds → i ≡ length t.kinds
  none_before i le all = elim (cases_lt i (length t.kinds)) [
    | inl lt ↦ absurd (omega (arith, less_trivia i lt, all))
    | inr past ↦ omega (arith, past, le)
  ]

-- ---- a root

pub tokens-end : (t : Table) (at depth : ℕ) (xs : List Step) → HaveTokens t at depth xs → end_from t at depth xs ≤ length t.kinds
tokens-end t at depth [] has = has
tokens-end t at depth (Token kind n ∷ xs) has = tokens-end t (raw_here t at depth (Token kind n) + n) depth xs has.1
tokens-end t at depth (Enter kind ∷ xs) has = tokens-end t (raw_here t at depth (Enter kind)) (depth + 1) xs has.1
tokens-end t at depth (Exit ∷ xs) has = tokens-end t (raw_here t at depth Exit) (depth - 1) xs has.1
tokens-end t at depth (Error text ∷ xs) has = tokens-end t (raw_here t at depth (Error text)) depth xs has.1

moved-root : (kind : ℕ) (steps : List Step) → errors_moved (Enter kind ∷ steps ++ Exit ∷ []) ≡ Enter kind ∷ errors_moved steps ++ Exit ∷ []
moved-root kind steps = ap (λ xs. Enter kind ∷ xs) (moved-append steps (Exit ∷ []) refl)

module _ (t : Table) (kind : ℕ) (steps : List Step) (back : depth_after 1 steps ≡ 1) (has : HaveTokens t 0 0 (errors_moved (Enter kind ∷ steps ++ Exit ∷ []))) where
  inner_tokens : HaveTokens t 0 1 (errors_moved steps ++ Exit ∷ [])
  inner_tokens = (subst (HaveTokens t 0 0) (moved-root kind steps) has).1

  pub front_tokens : HaveTokens t 0 1 (errors_moved steps)
  front_tokens = tokens-front t 0 1 (errors_moved steps) (Exit ∷ []) inner_tokens

  pub rest_tokens : HaveTokens t 0 1 (errors_moved (steps ++ Exit ∷ []))
  rest_tokens = subst (HaveTokens t 0 1) (sym (moved-append steps (Exit ∷ []) refl)) inner_tokens

  root_end : end_from t 0 0 (errors_moved (Enter kind ∷ steps ++ Exit ∷ [])) ≡ inner_end t steps + length (leading_trivia (raw_after t (inner_end t steps)))
  root_end =
      ap (end_from t 0 0) (moved-root kind steps)
      ∙ (end-append t 0 1 (errors_moved steps) (Exit ∷ []) ∙ ap (λ d. end_from t (inner_end t steps) d (Exit ∷ [])) (depth-moved 1 steps ∙ back))

  module _ (ends : (0 < length t.kinds) × (is_trivia (slice_index t.kinds (length t.kinds - 1)) ≡ false))
      (all : end_from t 0 0 (errors_moved (Enter kind ∷ steps ++ Exit ∷ [])) ≡ length t.kinds) where
    -- no trivia is left after the nodes
    pub inner_all : inner_end t steps ≡ length t.kinds
    inner_all = none_before t ends (inner_end t steps) (tokens-end t 0 1 (errors_moved steps) front_tokens) (sym root_end ∙ all)

    pub sent_inner : sent_from t 0 0 (errors_moved (Enter kind ∷ steps ++ Exit ∷ [])) ≡ sent.Enter kind ∷ inner_sent t steps ++ sent.Exit ∷ []
    sent_inner =
        root_sent t kind steps back
        ∙ (ap (λ n. sent.Enter kind ∷ inner_sent t steps ++ sent_from t n 1 (Exit ∷ [])) inner_all
        ∙ ap (λ rs. sent.Enter kind ∷ inner_sent t steps ++ (map sent_raw (leading_trivia rs) ++ sent.Exit ∷ [])) (raw_after-end t (length t.kinds) (omega arith)))
