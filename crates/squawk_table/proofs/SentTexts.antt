-- The texts of the sent list, and the source.
use Rattle.std.proofs.Common.{◌≡◌, ◌∙◌, ℕ, zero, suc, ◌+◌, ◌<◌, ◌≤◌, All, Bool, true, false, List, [], ◌∷◌, ◌++◌, if◌then◌else◌, map, length, take, drop, get_or, arith, add-one, ap, sym, refl, append_assoc, inl, inr}
use Rattle.std.specs.Prelude.{IsUtf8}
use Rattle.std.specs.Str.{chars}
use Rattle.std.proofs.lemmas.Bool.{cases_Bool}
use Rattle.std.proofs.lemmas.List.{append-nil, map-append, get_or_default, take-append-drop}
use Rattle.std.proofs.lemmas.List.Concat.{flat_map-append}
use Rattle.std.proofs.lemmas.List.Elements.{All-take, All-drop}
use Rattle.std.proofs.lemmas.Str.{chars-append, chars-nil}
use Rattle.squawk_kinds.specs.Kinds.{is_trivia}
use Rattle.squawk_table.specs.RawTable.{RawToken, text_of}
use Rattle.squawk_table.specs.Sent.{leading_trivia, past_trivia, after_input, sent_raw, text_in, texts_of}
use Rattle.squawk_output.specs.Steps.{Step, Token, Enter, Exit, Error}
use Rattle.squawk_table.proofs.NumberedSteps.{eaten_before, is_receiver, is_received, trivia_before, sent_below}
use Rattle.squawk_table.proofs.Received.{left_before, left_at, left_before-other, trivia_before-left}
use Rattle.squawk_table.proofs.SentBelow.{sent_to, sent_for, sent_below-more}
use Rattle.squawk_table.proofs.SentSteps.{IsOverRaw, token_here}
use Rattle.squawk_table.proofs.Trivia.{leading_trivia-append-past_trivia}

-- the characters of raw tokens
abbrev pub raw_chars : List RawToken → List ℕ
raw_chars raw = texts_of (map sent_raw raw)

raw_chars-append : (xs ys : List RawToken) → raw_chars (xs ++ ys) ≡ raw_chars xs ++ raw_chars ys
raw_chars-append xs ys = ap texts_of (map-append sent_raw xs ys) ∙ flat_map-append text_in (map sent_raw xs) (map sent_raw ys)

-- ---- raw tokens whose bytes are text

abbrev pub AreTexts : List RawToken → Type 0
AreTexts raw = All (λ r. IsUtf8 r.text) raw

texts_behind : (r : RawToken) (raw : List RawToken) → AreTexts (r ∷ raw) → AreTexts raw
texts_behind r raw texts = λ k d lt. texts (suc k) d (omega arith)

chars-text_of : (raw : List RawToken) → AreTexts raw → chars (text_of raw) ≡ raw_chars raw
chars-text_of [] texts = chars-nil
chars-text_of (r ∷ raw) texts =
    chars-append r.text (text_of raw) (texts 0 r (omega arith)) ∙ ap (λ xs. chars r.text ++ xs) (chars-text_of raw (texts_behind r raw texts))

-- the text of the first n, and the others
raw_chars-front : (n : ℕ) (raw : List RawToken) → AreTexts raw → chars (text_of (take n raw)) ++ raw_chars (drop n raw) ≡ raw_chars raw
raw_chars-front n raw texts =
    ap (λ xs. xs ++ raw_chars (drop n raw)) (chars-text_of (take n raw) (All-take (λ r. IsUtf8 r.text) n raw texts))
    ∙ (sym (raw_chars-append (take n raw) (drop n raw)) ∙ ap raw_chars (take-append-drop n raw))

AreTexts-past_trivia : (raw : List RawToken) → AreTexts raw → AreTexts (past_trivia raw)
AreTexts-past_trivia [] texts = texts
AreTexts-past_trivia (r ∷ raw) texts =
    elim (cases_Bool (is_trivia r.kind)) [
      | inl e ↦ rw e (AreTexts-past_trivia raw (texts_behind r raw texts))
      | inr e ↦ rw e texts
    ]

AreTexts-after_input : (c : ℕ) (raw : List RawToken) → AreTexts raw → AreTexts (after_input c raw)
AreTexts-after_input zero raw texts = texts
AreTexts-after_input (suc c) raw texts =
    All-drop (λ r. IsUtf8 r.text) 1 (past_trivia (after_input c raw)) (AreTexts-past_trivia (after_input c raw) (AreTexts-after_input c raw texts))

AreTexts-if : (b : Bool) (raw : List RawToken) → AreTexts raw → AreTexts (if b then past_trivia raw else raw)
AreTexts-if true raw texts = AreTexts-past_trivia raw texts
AreTexts-if false raw texts = texts

AreTexts-left_at : (raw : List RawToken) (steps : List Step) (i : ℕ) → AreTexts raw → AreTexts (left_at raw steps i)
AreTexts-left_at raw steps i texts =
    let c = eaten_before steps i in
    AreTexts-if (is_receiver steps i) (left_before raw steps i) (AreTexts-if (is_received steps c i) (after_input c raw) (AreTexts-after_input c raw texts))

-- ---- the steps

-- the trivia before a step, and what is left then
parts : (left : List RawToken) (receiver : Bool) → (if receiver then leading_trivia left else []) ++ (if receiver then past_trivia left else left) ≡ left
parts left true = leading_trivia-append-past_trivia left
parts left false = refl

module _ (raw : List RawToken) (steps : List Step) (texts : AreTexts raw) (over : IsOverRaw raw steps) where
  trivia_chars : (i : ℕ) → raw_chars (trivia_before raw steps i) ++ raw_chars (left_at raw steps i) ≡ raw_chars (left_before raw steps i)
  trivia_chars i =
      let left = left_before raw steps i in
      sym (raw_chars-append (trivia_before raw steps i) (left_at raw steps i))
      ∙ (ap (λ xs. raw_chars (xs ++ left_at raw steps i)) (trivia_before-left raw steps i) ∙ ap raw_chars (parts left (is_receiver steps i)))

  step_chars : (i : ℕ) (step : Step) → i < length steps → get_or steps i step ≡ step
      → text_in (sent_for raw steps i step) ++ raw_chars (left_before raw steps (i + 1)) ≡ raw_chars (left_at raw steps i)
  step_chars i (Token kind n) lt at =
      let here = token_here raw steps i kind n over lt at in
      let left = left_at raw steps i in
      ap (λ text. chars text ++ raw_chars (left_before raw steps (i + 1))) here.text
      ∙ (ap (λ xs. chars (text_of (take n left)) ++ raw_chars xs) here.left ∙ raw_chars-front n left (AreTexts-left_at raw steps i texts))
  step_chars i (Enter kind) lt at = ap raw_chars (left_before-other raw steps i (Enter kind) lt at refl)
  step_chars i Exit lt at = ap raw_chars (left_before-other raw steps i Exit lt at refl)
  step_chars i (Error text) lt at = ap raw_chars (left_before-other raw steps i (Error text) lt at refl)

  to_texts : (all : List ℕ) (i : ℕ) → texts_of (sent_below raw steps i) ++ raw_chars (left_before raw steps i) ≡ all
      → texts_of (sent_to raw steps i) ++ raw_chars (left_at raw steps i) ≡ all
  to_texts all i before =
      let first = sent_below raw steps i in
      let trivia = map sent_raw (trivia_before raw steps i) in
      ap (λ xs. xs ++ raw_chars (left_at raw steps i)) (flat_map-append text_in first trivia)
      ∙ (append_assoc (texts_of first) (texts_of trivia) (raw_chars (left_at raw steps i)) ∙ (ap (λ xs. texts_of first ++ xs) (trivia_chars i) ∙ before))

  more_texts : (all : List ℕ) (i : ℕ) (step : Step) → i < length steps → get_or steps i step ≡ step
      → texts_of (sent_to raw steps i) ++ raw_chars (left_at raw steps i) ≡ all → texts_of (sent_below raw steps (i + 1)) ++ raw_chars (left_before raw steps (i + 1)) ≡ all
  more_texts all i step lt at before =
      let first = sent_to raw steps i in
      let here = sent_for raw steps i step in
      let left = raw_chars (left_before raw steps (i + 1)) in
      let texts : texts_of (sent_below raw steps (i + 1)) ≡ texts_of first ++ (text_in here ++ []) =
      ap texts_of (sent_below-more raw steps i step lt at) ∙ flat_map-append text_in first (here ∷ []) in
      ap (λ xs. xs ++ left) texts
      ∙ (append_assoc (texts_of first) (text_in here ++ []) left
      ∙ (ap (λ xs. texts_of first ++ (xs ++ left)) (append-nil (text_in here)) ∙ (ap (λ xs. texts_of first ++ xs) (step_chars i step lt at) ∙ before)))

  -- what is sent and what is left are the whole source
  pub texts_of-sent_below : (i : ℕ) → i ≤ length steps → texts_of (sent_below raw steps i) ++ raw_chars (left_before raw steps i) ≡ raw_chars raw
  texts_of-sent_below zero le = refl
  texts_of-sent_below (suc i) le =
      let step = get_or steps i Exit in
      let at = get_or_default steps i step Exit (omega arith) in
      let more = more_texts (raw_chars raw) i step (omega arith) at (to_texts (raw_chars raw) i (texts_of-sent_below i (omega arith))) in
      ap (λ i. texts_of (sent_below raw steps i) ++ raw_chars (left_before raw steps i)) (sym (add-one i)) ∙ more

  -- also once the trivia before a step is sent
  pub texts_of-sent_to : (i : ℕ) → i ≤ length steps → texts_of (sent_to raw steps i) ++ raw_chars (left_at raw steps i) ≡ raw_chars raw
  texts_of-sent_to i le = to_texts (raw_chars raw) i (texts_of-sent_below i le)
