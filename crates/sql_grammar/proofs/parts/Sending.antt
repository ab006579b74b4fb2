-- What is sent for the table of two texts is what is sent for both.
use Rattle.std.proofs.Common.{◌≡◌, ◌∙◌, ℕ, ◌+◌, ◌-◌, ◌<◌, ◌≤◌, Bool, true, false, List, [], ◌∷◌, ◌++◌, length, drop, map, slice_index, if◌then◌else◌, append_assoc, arith, ap, sym, subst, refl}
use Rattle.std.specs.Prelude.{slice_range}
use Rattle.std.specs.Str.{chars}
use Rattle.std.proofs.lemmas.List.{drop-append-le, map-append}
use Rattle.squawk_kinds.specs.Kinds.{is_trivia}
use Rattle.squawk_kinds.specs.Keywords.{Keywords}
use Rattle.squawk_output.specs.Steps.{Step, Token, Enter, Exit, Error, without_errors}
use Rattle.squawk_tokens.specs.declared.token.Token as raw
use Rattle.squawk_table.specs.RawTable.{RawToken, Table, raw_after, raw_tokens, table_of}
use Rattle.squawk_table.specs.Sending.{HasTokens, HaveTokens, depth_behind, end_from, next_raw, raw_here, receives_at, sent_from, sent_here, trivia_here}
use Rattle.squawk_table.specs.Sent.{errors_moved, leading_errors, leading_trivia, sent_raw}
use Rattle.squawk_table.specs.declared.shortcuts.str_step.OwnedStep.{OwnedStep}
use Rattle.squawk_table.specs.declared.shortcuts.str_step.OwnedStep.TheVariants as sent
use Rattle.sql_grammar.specs.Parts.{moved_by}
use Rattle.squawk_table.proofs.FrontTokens.{length-raw_after}
use Rattle.squawk_table.proofs.ErrorsMoved.{length-moved, without_errors-moved}
use Rattle.sql_grammar.proofs.parts.Tables.{bytes, after_first, after_second, front_part, later_part, start_first, start_second, starts_order}

-- ---- steps one after another

-- the number of open nodes behind steps
abbrev pub depth_after : ℕ → List Step → ℕ
depth_after depth [] = depth
depth_after depth (step ∷ steps) = depth_after (depth_behind depth step) steps

pub depth-append : (depth : ℕ) (xs ys : List Step) → depth_after depth (xs ++ ys) ≡ depth_after (depth_after depth xs) ys
depth-append depth [] ys = refl
depth-append depth (x ∷ xs) ys = depth-append (depth_behind depth x) xs ys

depth-without : (depth : ℕ) (steps : List Step) → depth_after depth (without_errors steps) ≡ depth_after depth steps
depth-without depth [] = refl
depth-without depth (Token kind n ∷ steps) = depth-without depth steps
depth-without depth (Enter kind ∷ steps) = depth-without (depth + 1) steps
depth-without depth (Exit ∷ steps) = depth-without (depth - 1) steps
depth-without depth (Error text ∷ steps) = depth-without depth steps

pub depth-moved : (depth : ℕ) (steps : List Step) → depth_after depth (errors_moved steps) ≡ depth_after depth steps
depth-moved depth steps = sym (depth-without depth (errors_moved steps)) ∙ (ap (depth_after depth) (without_errors-moved steps) ∙ depth-without depth steps)

module _ (t : Table) where
  pub sent-append : (at depth : ℕ) (xs ys : List Step) → sent_from t at depth (xs ++ ys) ≡ sent_from t at depth xs ++ sent_from t (end_from t at depth xs) (depth_after depth xs) ys
  sent-append at depth [] ys = refl
  sent-append at depth (x ∷ xs) ys =
      let here = raw_here t at depth x in
      let trivia = map sent_raw (trivia_here t at depth x) in
      let others = sent_from t (next_raw here x) (depth_behind depth x) xs in
      ap (λ rest. trivia ++ sent_here t here x ∷ rest) (sent-append (next_raw here x) (depth_behind depth x) xs ys)
      ∙ sym (append_assoc trivia (sent_here t here x ∷ others) (sent_from t (end_from t (next_raw here x) (depth_behind depth x) xs) (depth_after (depth_behind depth x) xs) ys))

  pub end-append : (at depth : ℕ) (xs ys : List Step) → end_from t at depth (xs ++ ys) ≡ end_from t (end_from t at depth xs) (depth_after depth xs) ys
  end-append at depth [] ys = refl
  end-append at depth (x ∷ xs) ys = end-append (next_raw (raw_here t at depth x) x) (depth_behind depth x) xs ys

  pub tokens-within : (at depth : ℕ) (xs : List Step) → HaveTokens t at depth xs → at ≤ length t.kinds
  tokens-within at depth [] has = has
  tokens-within at depth (Token kind n ∷ xs) has = omega (arith, tokens-within (raw_here t at depth (Token kind n) + n) depth xs has.1)
  tokens-within at depth (Enter kind ∷ xs) has = omega (arith, tokens-within (raw_here t at depth (Enter kind)) (depth + 1) xs has.1)
  tokens-within at depth (Exit ∷ xs) has = omega (arith, tokens-within (raw_here t at depth Exit) (depth - 1) xs has.1)
  tokens-within at depth (Error text ∷ xs) has = omega (arith, tokens-within (raw_here t at depth (Error text)) depth xs has.1)

  pub next-within : (at depth : ℕ) (x : Step) (xs : List Step) → HaveTokens t at depth (x ∷ xs) → raw_here t at depth x ≤ length t.kinds
  next-within at depth (Token kind n) xs has = omega (arith, tokens-within (raw_here t at depth (Token kind n) + n) depth xs has.1)
  next-within at depth (Enter kind) xs has = tokens-within (raw_here t at depth (Enter kind)) (depth + 1) xs has.1
  next-within at depth Exit xs has = tokens-within (raw_here t at depth Exit) (depth - 1) xs has.1
  next-within at depth (Error text) xs has = tokens-within (raw_here t at depth (Error text)) depth xs has.1

  pub tokens-front : (at depth : ℕ) (xs ys : List Step) → HaveTokens t at depth (xs ++ ys) → HaveTokens t at depth xs
  tokens-front at depth [] ys has = tokens-within at depth ys has
  tokens-front at depth (x ∷ xs) ys (here, others) = (here, tokens-front (next_raw (raw_here t at depth x) x) (depth_behind depth x) xs ys others)

-- ---- errors

no_errors-front : (xs ys : List Step) → leading_errors ys ≡ [] → leading_errors (xs ++ ys) ≡ leading_errors xs
no_errors-front [] ys e = e
no_errors-front (Token kind n ∷ xs) ys e = refl
no_errors-front (Enter kind ∷ xs) ys e = refl
no_errors-front (Exit ∷ xs) ys e = refl
no_errors-front (Error text ∷ xs) ys e = ap (λ errors. Error text ∷ errors) (no_errors-front xs ys e)

few_errors : (steps : List Step) → length (leading_errors steps) ≤ length steps
few_errors [] = omega arith
few_errors (Token kind n ∷ xs) = omega arith
few_errors (Enter kind ∷ xs) = omega arith
few_errors (Exit ∷ xs) = omega arith
few_errors (Error text ∷ xs) = omega (arith, few_errors xs)

pub moved-append : (xs ys : List Step) → leading_errors ys ≡ [] → errors_moved (xs ++ ys) ≡ errors_moved xs ++ errors_moved ys
moved-append [] ys e = refl
moved-append (Token kind n ∷ xs) ys e = ap (λ steps. Token kind n ∷ steps) (moved-append xs ys e)
moved-append (Enter kind ∷ xs) ys e = ap (λ steps. Enter kind ∷ steps) (moved-append xs ys e)
moved-append (Error text ∷ xs) ys e = ap (λ steps. Error text ∷ steps) (moved-append xs ys e)
moved-append (Exit ∷ xs) ys e =
    let errors = leading_errors xs in
    ap (λ es. es ++ Exit ∷ drop (length es) (errors_moved (xs ++ ys))) (no_errors-front xs ys e)
    ∙ (ap (λ steps. errors ++ Exit ∷ drop (length errors) steps) (moved-append xs ys e)
    ∙ (ap (λ steps. errors ++ Exit ∷ steps) (drop-append-le (length errors) (errors_moved xs) (errors_moved ys) (omega (arith, few_errors xs, length-moved xs)))
    ∙ sym (append_assoc errors (Exit ∷ drop (length errors) (errors_moved xs)) (errors_moved ys))))

-- ---- steps before which trivia stands

-- a token is among them
pub data HasToken : List Step → Type 0 where
  here : {kind n : ℕ} {steps : List Step} → HasToken (Token kind n ∷ steps)
  later : {step : Step} {steps : List Step} → HasToken steps → HasToken (step ∷ steps)

-- whether trivia may stand before a step, or it is an error
abbrev pub waits : ℕ → Step → Bool
waits depth (Error text) = true
waits depth step = receives_at depth step

-- each such step is a token, or one stands after it
pub data AreBeforeTokens : ℕ → List Step → Type 0 where
  none : {depth : ℕ} → AreBeforeTokens depth []
  more : {depth : ℕ} {step : Step} {steps : List Step} → (waits depth step ≡ true → HasToken (step ∷ steps)) → AreBeforeTokens (depth_behind depth step) steps
      → AreBeforeTokens depth (step ∷ steps)

pub has_token-later : (xs : List Step) {ys : List Step} → HasToken ys → HasToken (xs ++ ys)
has_token-later [] has = has
has_token-later (x ∷ xs) has = later (has_token-later xs has)

-- what stands before a token
pub before_token : (depth : ℕ) (xs ys : List Step) → HasToken ys → AreBeforeTokens (depth_after depth xs) ys → AreBeforeTokens depth (xs ++ ys)
before_token depth [] ys has are = are
before_token depth (x ∷ xs) ys has are = more (λ e. later (has_token-later xs has)) (before_token (depth_behind depth x) xs ys has are)

leading-both : (xs ys : List RawToken) → length (leading_trivia xs) < length xs → leading_trivia (xs ++ ys) ≡ leading_trivia xs
leading-both [] ys lt = absurd (omega arith)
leading-both (r ∷ xs) ys lt = cases (is_trivia r.kind) lt (leading-both xs ys)
  where
    cases : (b : Bool) → length (if b then r ∷ leading_trivia xs else []) < length (r ∷ xs) → (length (leading_trivia xs) < length xs → leading_trivia (xs ++ ys) ≡ leading_trivia xs)
        → (if b then r ∷ leading_trivia (xs ++ ys) else []) ≡ (if b then r ∷ leading_trivia xs else [])
    cases false lt others = refl
    cases true lt others = ap (λ rs. r ∷ rs) (others (omega (arith, lt)))

module _ (t : Table) where
  abbrev is_some_left : ℕ → Type 0
  is_some_left at = at + length (leading_trivia (raw_after t at)) < length t.kinds

  from_here : (at : ℕ) (b : Bool) → is_some_left (at + length (if b then leading_trivia (raw_after t at) else [])) → is_some_left at
  from_here at true lt = omega (arith, lt)
  from_here at false lt = let same : at + 0 ≡ at = omega arith in subst is_some_left same lt

  -- where a token is left, trivia isn't all
  pub some_left : (at depth : ℕ) (steps : List Step) → HasToken steps → HaveTokens t at depth steps → is_some_left at
  some_left at depth [] token has = elim token [ ]
  some_left at depth (Token kind n ∷ steps) token has = omega (arith, has.0.0, has.0.1)
  some_left at depth (Enter kind ∷ steps) (later token) has = from_here at (receives_at depth (Enter kind)) (some_left (raw_here t at depth (Enter kind)) (depth + 1) steps token has.1)
  some_left at depth (Exit ∷ steps) (later token) has = from_here at (receives_at depth Exit) (some_left (raw_here t at depth Exit) (depth - 1) steps token has.1)
  some_left at depth (Error text ∷ steps) (later token) has = from_here at false (some_left (raw_here t at depth (Error text)) depth steps token has.1)

-- ---- the table of both

module _ (keyword : Keywords) (a b : List ℕ) (front later_tokens : List raw.Token) (all : bytes front ≡ length a) where
  abbrev t1 : Table
  t1 = table_of keyword a front

  abbrev t2 : Table
  t2 = table_of keyword b later_tokens

  abbrev t3 : Table
  t3 = table_of keyword (a ++ b) (front ++ later_tokens)

  trivia_first : (at depth : ℕ) (step : Step) (steps : List Step) → (receives_at depth step ≡ true → HasToken (step ∷ steps)) → HaveTokens t1 at depth (step ∷ steps)
      → trivia_here t3 at depth step ≡ trivia_here t1 at depth step
  trivia_first at depth step steps token has = cases (receives_at depth step) refl
    where
      cases : (b : Bool) → receives_at depth step ≡ b → (if b then leading_trivia (raw_after t3 at) else []) ≡ (if b then leading_trivia (raw_after t1 at) else [])
      cases false e = refl
      cases true e =
          let within = tokens-within t1 at depth (step ∷ steps) has in
          let some = some_left t1 at depth (step ∷ steps) (token e) has in
          ap leading_trivia (after_first keyword a b front later_tokens all at within)
          ∙ leading-both (raw_after t1 at) (raw_tokens t2) (omega (arith, some, length-raw_after t1 (length t1.kinds - at) at (omega (arith, within))))

  here_first : (at : ℕ) (step : Step) → HasTokens t1 at step → at ≤ length t1.kinds → sent_here t3 at step ≡ sent_here t1 at step
  here_first at (Token kind n) has le =
      let s1 = start_first keyword a b front later_tokens all at le in
      let s2 = start_first keyword a b front later_tokens all (at + n) has.1 in
      let order = starts_order keyword a front all at (at + n) (omega arith) has.1 in
      ap (λ text. sent.Token kind (chars text))
      (ap (λ m. slice_range (a ++ b) m (slice_index t3.starts (at + n))) s1
      ∙ (ap (λ m. slice_range (a ++ b) (slice_index t1.starts at) m) s2
      ∙ front_part a b (slice_index t1.starts at) (slice_index t1.starts (at + n)) order.0 order.1))
  here_first at (Enter kind) has le = refl
  here_first at Exit has le = refl
  here_first at (Error text) has le = ap (sent.Error text) (start_first keyword a b front later_tokens all at le)

  receiving : (depth : ℕ) (step : Step) → receives_at depth step ≡ true → waits depth step ≡ true
  receiving depth (Error text) e = refl
  receiving depth step e = e

  -- what is sent for steps in the first text
  pub sent_first : (at depth : ℕ) (steps : List Step) → AreBeforeTokens depth steps → HaveTokens t1 at depth steps
      → (sent_from t3 at depth steps ≡ sent_from t1 at depth steps) × (end_from t3 at depth steps ≡ end_from t1 at depth steps)
  sent_first at depth [] are has = (refl, refl)
  sent_first at depth (step ∷ steps) (more token are) has =
      let trivia = trivia_first at depth step steps (λ e. token (receiving depth step e)) has in
      let here = raw_here t1 at depth step in
      let same : raw_here t3 at depth step ≡ here = ap (λ rs. at + length rs) trivia in
      let others = sent_first (next_raw here step) (depth_behind depth step) steps are has.1 in (
        ap (λ rs. map sent_raw rs ++ sent_here t3 (raw_here t3 at depth step) step ∷ sent_from t3 (next_raw (raw_here t3 at depth step) step) (depth_behind depth step) steps) trivia
            ∙ (ap (λ n. map sent_raw (trivia_here t1 at depth step) ++ sent_here t3 n step ∷ sent_from t3 (next_raw n step) (depth_behind depth step) steps) same
            ∙ (ap (λ s. map sent_raw (trivia_here t1 at depth step) ++ s ∷ sent_from t3 (next_raw here step) (depth_behind depth step) steps)
            (here_first here step has.0 (next-within t1 at depth step steps has))
            ∙ ap (λ rest. map sent_raw (trivia_here t1 at depth step) ++ sent_here t1 here step ∷ rest) others.0)),
        ap (λ n. end_from t3 (next_raw n step) (depth_behind depth step) steps) same ∙ others.1,
      )

  -- ---- in the second text

  abbrev n1 : ℕ
  n1 = length t1.kinds

  here_second : (at : ℕ) (step : Step) → HasTokens t2 at step → at ≤ length t2.kinds → sent_here t3 (n1 + at) step ≡ moved_by (length a) (sent_here t2 at step)
  here_second at (Token kind n) has le =
      let sum : n1 + at + n ≡ n1 + (at + n) = omega arith in
      ap (λ text. sent.Token kind (chars text))
      (ap (λ m. slice_range (a ++ b) m (slice_index t3.starts (n1 + at + n))) (start_second keyword a b front later_tokens all at le)
      ∙ (ap (λ m. slice_range (a ++ b) (length a + slice_index t2.starts at) (slice_index t3.starts m)) sum
      ∙ (ap (λ m. slice_range (a ++ b) (length a + slice_index t2.starts at) m) (start_second keyword a b front later_tokens all (at + n) has.1)
      ∙ later_part a b (slice_index t2.starts at) (slice_index t2.starts (at + n)))))
  here_second at (Enter kind) has le = refl
  here_second at Exit has le = refl
  here_second at (Error text) has le = ap (sent.Error text) (start_second keyword a b front later_tokens all at le)

  raw_moved : (rs : List RawToken) → map (moved_by (length a)) (map sent_raw rs) ≡ map sent_raw rs
  raw_moved [] = refl
  raw_moved (r ∷ rs) = ap (λ sent. sent_raw r ∷ sent) (raw_moved rs)

  next_moved : (at : ℕ) (step : Step) → next_raw (n1 + at) step ≡ n1 + next_raw at step
  next_moved at (Token kind n) = omega arith
  next_moved at (Enter kind) = refl
  next_moved at Exit = refl
  next_moved at (Error text) = refl

  pub sent_second : (at depth : ℕ) (steps : List Step) → HaveTokens t2 at depth steps
      → sent_from t3 (n1 + at) depth steps ≡ map (moved_by (length a)) (sent_from t2 at depth steps)
  sent_second at depth [] has = refl
  sent_second at depth (step ∷ steps) has =
      let move = moved_by (length a) in
      let trivia : trivia_here t3 (n1 + at) depth step ≡ trivia_here t2 at depth step =
      ap (λ rs. if receives_at depth step then leading_trivia rs else []) (after_second keyword a b front later_tokens all at (tokens-within t2 at depth (step ∷ steps) has)) in
      let here = raw_here t2 at depth step in
      let same : raw_here t3 (n1 + at) depth step ≡ n1 + here = omega (arith, ap length trivia) in
      let others = sent_second (next_raw here step) (depth_behind depth step) steps has.1 in
      let put = map sent_raw (trivia_here t2 at depth step) in
      let rest = sent_from t2 (next_raw here step) (depth_behind depth step) steps in
      ap (λ rs. map sent_raw rs ++ sent_here t3 (raw_here t3 (n1 + at) depth step) step ∷ sent_from t3 (next_raw (raw_here t3 (n1 + at) depth step) step) (depth_behind depth step) steps) trivia
      ∙ (ap (λ n. put ++ sent_here t3 n step ∷ sent_from t3 (next_raw n step) (depth_behind depth step) steps) same
      ∙ (ap (λ s. put ++ s ∷ sent_from t3 (next_raw (n1 + here) step) (depth_behind depth step) steps) (here_second here step has.0 (next-within t2 at depth step steps has))
      ∙ (ap (λ n. put ++ move (sent_here t2 here step) ∷ sent_from t3 n (depth_behind depth step) steps) (next_moved here step)
      ∙ (ap (λ sent. put ++ move (sent_here t2 here step) ∷ sent) others
      ∙ (ap (λ sent. sent ++ map move (sent_here t2 here step ∷ rest)) (sym (raw_moved (trivia_here t2 at depth step)))
      ∙ sym (map-append move put (sent_here t2 here step ∷ rest)))))))

-- ---- a root around all

-- what is sent in the root of a table, up to its closing
module _ (t : Table) where
  abbrev pub inner_sent : List Step → List OwnedStep
  inner_sent steps = sent_from t 0 1 (errors_moved steps)

  -- where it ends
  abbrev pub inner_end : List Step → ℕ
  inner_end steps = end_from t 0 1 (errors_moved steps)

moved-root : (kind : ℕ) (steps : List Step) → errors_moved (Enter kind ∷ steps ++ Exit ∷ []) ≡ Enter kind ∷ errors_moved steps ++ Exit ∷ []
moved-root kind steps = ap (λ xs. Enter kind ∷ xs) (moved-append steps (Exit ∷ []) refl)

-- of steps in a root
pub root_sent : (t : Table) (kind : ℕ) (steps : List Step) → depth_after 1 steps ≡ 1
    → sent_from t 0 0 (errors_moved (Enter kind ∷ steps ++ Exit ∷ [])) ≡ sent.Enter kind ∷ inner_sent t steps ++ sent_from t (inner_end t steps) 1 (Exit ∷ [])
root_sent t kind steps back =
    let inner = errors_moved steps in
    ap (sent_from t 0 0) (moved-root kind steps)
    ∙ ap (λ rest. sent.Enter kind ∷ rest)
    (sent-append t 0 1 inner (Exit ∷ []) ∙ ap (λ depth. inner_sent t steps ++ sent_from t (inner_end t steps) depth (Exit ∷ [])) (depth-moved 1 steps ∙ back))

module _ (keyword : Keywords) (a b : List ℕ) (front later_tokens : List raw.Token) (all : bytes front ≡ length a) (xs ys : List Step) where
  abbrev u1 : Table
  u1 = table_of keyword a front

  abbrev u2 : Table
  u2 = table_of keyword b later_tokens

  abbrev u3 : Table
  u3 = table_of keyword (a ++ b) (front ++ later_tokens)

  -- what is sent for the steps of two texts is what is sent for both
  pub both_sent : (kind : ℕ) → depth_after 1 xs ≡ 1 → depth_after 1 ys ≡ 1 → leading_errors ys ≡ [] → AreBeforeTokens 1 (errors_moved xs) → HaveTokens u1 0 1 (errors_moved xs)
      → inner_end u1 xs ≡ length u1.kinds → HaveTokens u2 0 1 (errors_moved (ys ++ Exit ∷ []))
      → sent_from u3 0 0 (errors_moved (Enter kind ∷ (xs ++ ys) ++ Exit ∷ [])) ≡ sent.Enter kind ∷ inner_sent u1 xs ++ map (moved_by (length a)) (sent_from u2 0 1 (errors_moved (ys ++ Exit ∷ [])))
  both_sent kind back again clean are has end others =
      let first = sent_first keyword a b front later_tokens all 0 1 (errors_moved xs) are has in
      let second = sent_second keyword a b front later_tokens all 0 1 (errors_moved (ys ++ Exit ∷ [])) others in
      let split : (xs ++ ys) ++ Exit ∷ [] ≡ xs ++ (ys ++ Exit ∷ []) = append_assoc xs ys (Exit ∷ []) in
      let moved : errors_moved (xs ++ (ys ++ Exit ∷ [])) ≡ errors_moved xs ++ errors_moved (ys ++ Exit ∷ []) = moved-append xs (ys ++ Exit ∷ []) (no_errors ys clean) in
      let begin : end_from u3 0 1 (errors_moved xs) ≡ length u1.kinds + 0 = omega (arith, first.1, end) in
      ap (λ steps. sent.Enter kind ∷ sent_from u3 0 1 (errors_moved steps)) split
      ∙ (ap (λ steps. sent.Enter kind ∷ sent_from u3 0 1 steps) moved
      ∙ (ap (λ rest. sent.Enter kind ∷ rest) (sent-append u3 0 1 (errors_moved xs) (errors_moved (ys ++ Exit ∷ [])))
      ∙ (ap (λ rest. sent.Enter kind ∷ rest ++ sent_from u3 (end_from u3 0 1 (errors_moved xs)) (depth_after 1 (errors_moved xs)) (errors_moved (ys ++ Exit ∷ []))) first.0
      ∙ (ap (λ n. sent.Enter kind ∷ inner_sent u1 xs ++ sent_from u3 n (depth_after 1 (errors_moved xs)) (errors_moved (ys ++ Exit ∷ []))) begin
      ∙ (ap (λ depth. sent.Enter kind ∷ inner_sent u1 xs ++ sent_from u3 (length u1.kinds + 0) depth (errors_moved (ys ++ Exit ∷ []))) (depth-moved 1 xs ∙ back)
      ∙ ap (λ rest. sent.Enter kind ∷ inner_sent u1 xs ++ rest) second)))))
    where
      no_errors : (ys : List Step) → leading_errors ys ≡ [] → leading_errors (ys ++ Exit ∷ []) ≡ []
      no_errors ys clean = no_errors-front ys (Exit ∷ []) refl ∙ clean
