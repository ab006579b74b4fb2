-- What is sent for a walk that stands in one root: tokens in nodes, one root, and ends of open nodes.
use Rattle.std.proofs.Common.{◌≡◌, inl, inr, ℕ, zero, suc, ◌+◌, ◌-◌, ◌<◌, ◌≤◌, Bool, true, false, List, [], ◌∷◌, ◌++◌, map, length, take, drop, slice_index, slice_range, arith, add-one, ap, sym, refl, subst}
use Rattle.std.specs.Prelude.{encode_utf8_all, if◌then◌else◌}
use Rattle.std.specs.Str.{chars}
use Rattle.std.proofs.lemmas.Bool.{cases_Bool, ltb-true}
use Rattle.std.proofs.lemmas.List.{length-drop, length-take-le}
use Rattle.std.proofs.lemmas.Str.{IsUtf8-between, encodes-chars}
use Rattle.squawk_kinds.specs.Kinds.{is_trivia}
use Rattle.squawk_output.specs.OneRoot.{StandsInOneRoot}
use Rattle.squawk_output.specs.Steps.{Step, Token, Enter, Exit, Error, is_enter, is_exit, is_error, openings, closings, without_errors}
use Rattle.squawk_output.specs.Steps as walk
use Rattle.squawk_output.proofs.Sums.{count_by-cons}
use Rattle.squawk_table.specs.RawTable.{Table, IsTable, RawToken, raw_after, raw_from}
use Rattle.squawk_table.specs.Sending.{HaveTokens, raw_here, receives_at, sent_from, sent_here, trivia_here}
use Rattle.squawk_table.specs.Sent.{leading_trivia, sent_raw}
use Rattle.squawk_table.specs.declared.shortcuts.str_step.OwnedStep.{OwnedStep}
use Rattle.squawk_table.specs.declared.shortcuts.str_step.OwnedStep.TheVariants as sent
use Rattle.syntax_tree.specs.Refusals.{errors_in}

-- ---- walks

-- Inside of so many nodes, where the root was entered or not: tokens stand in nodes, one root is entered, a node ends where one is
-- open, and none is open at the end.
abbrev pub Goes : List Step → Bool → ℕ → Type 0
Goes [] begun n = (begun ≡ true) × (n ≡ 0)
Goes (Token kind count ∷ steps) begun n = (1 ≤ n) × Goes steps begun n
Goes (Enter kind ∷ steps) begun n = (n ≡ 0 → begun ≡ false) × Goes steps true (suc n)
Goes (Exit ∷ steps) begun n = (1 ≤ n) × Goes steps begun (n - 1)
Goes (Error text ∷ steps) begun n = Goes steps begun n

goes_inside : (steps : List Step) (n : ℕ) → ((k : ℕ) → k < length steps → closings (take k steps) < n + openings (take k steps)) → closings steps ≡ n + openings steps
    → Goes steps true n
goes_inside [] n below closed = (refl, omega (arith, closed))
goes_inside (Token kind count ∷ steps) n below closed =
    let step = Token kind count in (
      omega (arith, below 0 (omega arith)),
      goes_inside steps n (λ k lt. omega (arith, below (suc k) (omega (arith, lt)), count_by-cons is_enter step (take k steps), count_by-cons is_exit step (take k steps)))
          (omega (arith, closed, count_by-cons is_enter step steps, count_by-cons is_exit step steps)),
    )
goes_inside (Enter kind ∷ steps) n below closed =
    let step = Enter kind in (
      λ none. absurd (omega (arith, below 0 (omega arith), none)),
      goes_inside steps (suc n) (λ k lt. omega (arith, below (suc k) (omega (arith, lt)), count_by-cons is_enter step (take k steps), count_by-cons is_exit step (take k steps)))
          (omega (arith, closed, count_by-cons is_enter step steps, count_by-cons is_exit step steps)),
    )
goes_inside (Exit ∷ steps) n below closed =
    let some : 1 ≤ n = omega (arith, below 0 (omega arith)) in (
      some,
      goes_inside steps (n - 1)
          (λ k lt. omega (arith, some, below (suc k) (omega (arith, lt)), count_by-cons is_enter Exit (take k steps), count_by-cons is_exit Exit (take k steps)))
          (omega (arith, some, closed, count_by-cons is_enter Exit steps, count_by-cons is_exit Exit steps)),
    )
goes_inside (Error text ∷ steps) n below closed =
    let step = Error text in
    goes_inside steps n (λ k lt. omega (arith, below (suc k) (omega (arith, lt)), count_by-cons is_enter step (take k steps), count_by-cons is_exit step (take k steps)))
    (omega (arith, closed, count_by-cons is_enter step steps, count_by-cons is_exit step steps))

pub goes_root : (steps : List Step) → StandsInOneRoot steps → Goes steps false 0
goes_root [] root = absurd root.begins
goes_root (Token kind count ∷ steps) root = absurd root.begins
goes_root (Enter kind ∷ steps) root =
    let step = Enter kind in (
      λ none. refl,
      goes_inside steps 1
          (λ k lt. omega (arith, root.inside (suc k) (omega arith) (omega (arith, lt)), count_by-cons is_enter step (take k steps), count_by-cons is_exit step (take k steps)))
          (omega (arith, root.closed, count_by-cons is_enter step steps, count_by-cons is_exit step steps)),
    )
goes_root (Exit ∷ steps) root = absurd root.begins
goes_root (Error text ∷ steps) root = absurd root.begins

pub with_errors : (steps : List Step) (begun : Bool) (n : ℕ) → Goes (without_errors steps) begun n → Goes steps begun n
with_errors [] begun n goes = goes
with_errors (Token kind count ∷ steps) begun n goes = (goes.0, with_errors steps begun n goes.1)
with_errors (Enter kind ∷ steps) begun n goes = (goes.0, with_errors steps true (suc n) goes.1)
with_errors (Exit ∷ steps) begun n goes = (goes.0, with_errors steps begun (n - 1) goes.1)
with_errors (Error text ∷ steps) begun n goes = with_errors steps begun n goes

-- ---- what is sent

-- the same of what is sent, where no token is empty
abbrev pub Sends : List OwnedStep → Bool → ℕ → Type 0
Sends [] begun n = (begun ≡ true) × (n ≡ 0)
Sends (sent.Token kind text ∷ steps) begun n = (1 ≤ n) × (1 ≤ length text) × Sends steps begun n
Sends (sent.Enter kind ∷ steps) begun n = (n ≡ 0 → begun ≡ false) × Sends steps true (suc n)
Sends (sent.Exit ∷ steps) begun n = (1 ≤ n) × Sends steps begun (n - 1)
Sends (sent.Error text pos ∷ steps) begun n = Sends steps begun n

encodes_some : (text : List ℕ) → 1 ≤ length (encode_utf8_all text) → 1 ≤ length text
encodes_some [] some = absurd (omega (arith, some))
encodes_some (c ∷ text) some = omega arith

-- raw tokens have characters
abbrev HaveChars : List RawToken → Type 0
HaveChars [] = Unit {0}
HaveChars (r ∷ raw) = (1 ≤ length (chars r.text)) × HaveChars raw

chars-leading : (raw : List RawToken) → HaveChars raw → HaveChars (leading_trivia raw)
chars-leading [] have = tt
chars-leading (r ∷ raw) have =
    elim (cases_Bool (is_trivia r.kind)) [
      | inl e ↦ rw e (have.0, chars-leading raw have.1)
      | inr e ↦ rw e tt
    ]

sends-trivia : (trivia : List RawToken) (rest : List OwnedStep) (begun : Bool) (n : ℕ) → HaveChars trivia → (1 ≤ length trivia → 1 ≤ n) → Sends rest begun n
    → Sends (map sent_raw trivia ++ rest) begun n
sends-trivia [] rest begun n have inside sends = sends
sends-trivia (r ∷ trivia) rest begun n have inside sends =
    let some = inside (omega arith) in
    (some, have.0, sends-trivia trivia rest begun n have.1 (λ more. some) sends)

module _ (t : Table) (table : IsTable t) where
  -- so have the parts of the source under some raw tokens
  some_chars : (i n : ℕ) → 1 ≤ n → i + n ≤ length t.kinds → 1 ≤ length (chars (slice_range t.text (slice_index t.starts i) (slice_index t.starts (i + n))))
  some_chars i n some within =
      let entries = table.entries in
      let start = slice_index t.starts i in
      let end = slice_index t.starts (i + n) in
      let rises : start < end = table.ascends i (i + n) (omega arith) (omega arith) in
      let from = table.boundaries i (omega arith) in
      let to = table.boundaries (i + n) (omega arith) in
      let part = slice_range t.text start end in
      let rest : length (drop start t.text) ≡ length t.text - start = length-drop start t.text in
      let inside : end - start ≤ length (drop start t.text) = omega (arith, to.0, rest) in
      let len : length part ≡ end - start = length-take-le (end - start) (drop start t.text) inside in
      encodes_some (chars part) (omega (arith, ap length (encodes-chars part (IsUtf8-between t.text start end table.utf8 (omega (arith, rises)) from to)), len, rises))

  chars-raw : (n i : ℕ) → n ≤ length t.kinds - i → HaveChars (raw_from t i n)
  chars-raw zero i le = tt
  chars-raw (suc n) i le = (some_chars i 1 (omega arith) (omega (arith, le)), chars-raw n (i + 1) (omega (arith, le)))

  module _ (place depth : ℕ) (step : Step) where
    chars-trivia : HaveChars (trivia_here t place depth step)
    chars-trivia =
        elim (cases_Bool (receives_at depth step)) [
          | inl e ↦ rw e (chars-leading (raw_after t place) (chars-raw (length t.kinds - place) place (omega arith)))
          | inr e ↦ rw e tt
        ]

    inside-trivia : (receives_at depth step ≡ true → 1 ≤ depth) → 1 ≤ length (trivia_here t place depth step) → 1 ≤ depth
    inside-trivia inside some =
        elim (cases_Bool (receives_at depth step)) [
          | inl e ↦ inside e
          | inr e ↦ absurd (omega (arith, some, ap (λ (b : Bool). length (if b then leading_trivia (raw_after t place) else [])) e))
        ]

    past_trivia : (rest : List OwnedStep) (begun : Bool) → (receives_at depth step ≡ true → 1 ≤ depth) → Sends rest begun depth
        → Sends (map sent_raw (trivia_here t place depth step) ++ rest) begun depth
    past_trivia rest begun inside sends = sends-trivia (trivia_here t place depth step) rest begun depth chars-trivia (inside-trivia inside) sends

  pub sends-from : (steps : List Step) (place depth : ℕ) (begun : Bool) → Goes steps begun depth → HaveTokens t place depth steps → Sends (sent_from t place depth steps) begun depth
  sends-from [] place depth begun goes tokens = goes
  sends-from (Token kind n ∷ steps) place depth begun goes tokens =
      let step = Token kind n in
      let at = raw_here t place depth step in
      past_trivia place depth step (sent_here t at step ∷ sent_from t (at + n) depth steps) begun (λ _. goes.0)
      (goes.0, some_chars at n tokens.0.0 tokens.0.1, sends-from steps (at + n) depth begun goes.1 tokens.1)
  sends-from (Enter kind ∷ steps) place depth begun goes tokens =
      let step = Enter kind in
      let at = raw_here t place depth step in
      past_trivia place depth step (sent.Enter kind ∷ sent_from t at (depth + 1) steps) begun (λ e. omega (arith, ltb-true 0 depth e))
      (goes.0, subst (Sends (sent_from t at (depth + 1) steps) true) (add-one depth) (sends-from steps at (depth + 1) true (subst (Goes steps true) (sym (add-one depth)) goes.1) tokens.1))
  sends-from (Exit ∷ steps) place depth begun goes tokens =
      let at = raw_here t place depth Exit in
      past_trivia place depth Exit (sent.Exit ∷ sent_from t at (depth - 1) steps) begun (λ _. goes.0)
      (goes.0, sends-from steps at (depth - 1) begun goes.1 tokens.1)
  sends-from (Error text ∷ steps) place depth begun goes tokens = sends-from steps (raw_here t place depth (Error text)) depth begun goes tokens.1

-- ---- how many errors are sent

errors-raw : (raw : List RawToken) (rest : List OwnedStep) → errors_in (map sent_raw raw ++ rest) ≡ errors_in rest
errors-raw [] rest = refl
errors-raw (r ∷ raw) rest = errors-raw raw rest

pub errors-from : (t : Table) (steps : List Step) (place depth : ℕ) → errors_in (sent_from t place depth steps) ≡ walk.errors_in steps
errors-from t [] place depth = refl
errors-from t (Token kind n ∷ steps) place depth =
    let step = Token kind n in
    let at = raw_here t place depth step in
    omega (
      arith,
      errors-raw (trivia_here t place depth step) (sent_here t at step ∷ sent_from t (at + n) depth steps),
      errors-from t steps (at + n) depth,
      count_by-cons is_error step steps,
    )
errors-from t (Enter kind ∷ steps) place depth =
    let step = Enter kind in
    let at = raw_here t place depth step in
    omega (
      arith,
      errors-raw (trivia_here t place depth step) (sent.Enter kind ∷ sent_from t at (depth + 1) steps),
      errors-from t steps at (depth + 1),
      count_by-cons is_error step steps,
    )
errors-from t (Exit ∷ steps) place depth =
    let at = raw_here t place depth Exit in
    omega (
      arith,
      errors-raw (trivia_here t place depth Exit) (sent.Exit ∷ sent_from t at (depth - 1) steps),
      errors-from t steps at (depth - 1),
      count_by-cons is_error Exit steps,
    )
errors-from t (Error text ∷ steps) place depth =
    omega (arith, errors-from t steps (raw_here t place depth (Error text)) depth, count_by-cons is_error (Error text) steps)
