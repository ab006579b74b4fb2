-- The tokens of a walk, in the raw tokens.
use Rattle.std.proofs.Common.{◌≡◌, ◌∙◌, ℕ, zero, suc, ◌+◌, ◌<◌, List, ◌∷◌, length, take, drop, get_or, arith, ap, sym, subst}
use Rattle.std.proofs.lemmas.List.{take-append-drop, drop_more}
use Rattle.squawk_table.specs.ParserInput.{entries_of}
use Rattle.squawk_table.specs.RawTable.{RawToken, text_of}
use Rattle.squawk_table.specs.Sent.{past_trivia, after_input, input_tokens}
use Rattle.squawk_table.specs.Shape.{AreOneToken, IsOver, no_keywords}
use Rattle.squawk_output.specs.Steps.{Step, Token}
use Rattle.squawk_table.proofs.FrontTokens.{FrontTokens, FrontTokens-one, take-input_tokens, after_input-front}
use Rattle.squawk_table.proofs.InputTokens.{input_tokens-after_input, entries_of-after_input}
use Rattle.squawk_table.proofs.NumberedSteps.{eaten_before}
use Rattle.squawk_table.proofs.Over.{IsOver-back}
use Rattle.squawk_table.proofs.Received.{left_before, left_at, left_before-token, left_at-receiver}
use Rattle.squawk_table.proofs.Receivers.{is_receiver-at}
use Rattle.squawk_table.proofs.Trivia.{input_tokens-past_trivia}

-- the walk is over the input that raw tokens have
abbrev pub IsOverRaw : List RawToken → List Step → Type 0
IsOverRaw raw steps = IsOver steps (entries_of no_keywords raw)

-- a token of the walk: the raw tokens from the next one of the input on, which are left at it
pub record TokenHere (raw : List RawToken) (steps : List Step) (i n : ℕ) : Type 0 where
  pub front : FrontTokens n (left_at raw steps i)
  pub text : text_of (take n (drop (eaten_before steps i) (input_tokens raw))) ≡ text_of (take n (left_at raw steps i))
  pub left : left_before raw steps (i + 1) ≡ drop n (left_at raw steps i)

module _ (raw : List RawToken) (steps : List Step) (i kind n : ℕ) (over : IsOverRaw raw steps) (lt : i < length steps) (at : get_or steps i (Token kind n) ≡ Token kind n) where
  rest_over : IsOver (Token kind n ∷ drop (i + 1) steps) (drop (eaten_before steps i) (entries_of no_keywords raw))
  rest_over =
      let here : drop i steps ≡ Token kind n ∷ drop (i + 1) steps = drop_more steps i (Token kind n) lt ∙ ap (λ s. s ∷ drop (i + 1) steps) at in
      let all = subst (λ xs. IsOver xs (entries_of no_keywords raw)) (sym (take-append-drop i steps)) over in
      subst (λ xs. IsOver xs (drop (eaten_before steps i) (entries_of no_keywords raw))) here (IsOver-back (take i steps) (drop i steps) (entries_of no_keywords raw) all)

  front_tokens : FrontTokens n (past_trivia (after_input (eaten_before steps i) raw))
  front_tokens =
      let c = eaten_before steps i in
      FrontTokens-one no_keywords n (after_input c raw) (subst (AreOneToken n) (sym (entries_of-after_input no_keywords c raw)) rest_over.0)

  text_here : text_of (take n (drop (eaten_before steps i) (input_tokens raw))) ≡ text_of (take n (past_trivia (after_input (eaten_before steps i) raw)))
  text_here =
      let c = eaten_before steps i in
      let front = past_trivia (after_input c raw) in
      let same : drop c (input_tokens raw) ≡ input_tokens front = sym (input_tokens-past_trivia (after_input c raw) ∙ input_tokens-after_input c raw) in
      ap (λ xs. text_of (take n xs)) same ∙ ap text_of (take-input_tokens n front front_tokens.input)

  pub token_here : TokenHere raw steps i n
  token_here =
      let c = eaten_before steps i in
      let here = left_at-receiver raw steps i (Token kind n) lt at (is_receiver-at steps i (Token kind n) lt at) in
      record {
        front = subst (FrontTokens n) (sym here) front_tokens;
        text = text_here ∙ ap (λ xs. text_of (take n xs)) (sym here);
        left = left_before-token raw steps i (Token kind n) lt at front_tokens.some ∙ (behind_front n front_tokens ∙ ap (drop n) (sym here));
      }
    where
      behind_front : (n : ℕ) → FrontTokens n (past_trivia (after_input (eaten_before steps i) raw))
          → after_input (eaten_before steps i + n) raw ≡ drop n (past_trivia (after_input (eaten_before steps i) raw))
      behind_front zero front = absurd (omega (arith, front.some))
      behind_front (suc k) front = after_input-front k (eaten_before steps i) raw front.there front.input
