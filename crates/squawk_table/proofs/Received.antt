-- What is left of the raw tokens before each step of a walk.
use Rattle.std.proofs.Common.{◌≡◌, ◌∙◌, ℕ, zero, suc, ◌+◌, ◌<◌, ◌≤◌, Bool, true, false, not, ◌&&◌, ◌||◌, List, [], if◌then◌else◌, length, take, get_or, arith, add-one, ap, sym, refl}
use Rattle.std.specs.Prelude.{◌==◌}
use Rattle.std.proofs.Math.Bool.{and-true}
use Rattle.std.proofs.lemmas.Bool.{eq-eqb, ne_eqb, and_right}
use Rattle.std.proofs.lemmas.List.{take-take}
use Rattle.std.proofs.lemmas.List.Sums.{sum_by-take-le}
use Rattle.squawk_table.specs.RawTable.{RawToken}
use Rattle.squawk_table.specs.Sent.{leading_trivia, past_trivia, after_input, trivia_run}
use Rattle.squawk_output.specs.Steps.{Step, count_of, eaten}
use Rattle.squawk_table.proofs.NumberedSteps.{eaten_before, is_receiver, is_received, trivia_before}
use Rattle.squawk_table.proofs.StepSpots.{eaten-take_more}
use Rattle.squawk_table.proofs.Trivia.{past_trivia-past_trivia, leading_trivia-past_trivia}

-- the raw tokens that are left before step i: without the trivia at their front, if a step received that already
abbrev pub left_before : List RawToken → List Step → ℕ → List RawToken
left_before raw steps i =
    let c = eaten_before steps i in
    if is_received steps c i then past_trivia (after_input c raw) else after_input c raw

-- those that are left after the trivia before step i
abbrev pub left_at : List RawToken → List Step → ℕ → List RawToken
left_at raw steps i = if is_receiver steps i then past_trivia (left_before raw steps i) else left_before raw steps i

-- ---- the trivia before a step

-- a step receives the trivia that is left, if any
before_cases : (raw : List RawToken) (c : ℕ) (receiver received : Bool)
    → (if receiver && not received then trivia_run raw c else [])
    ≡ (if receiver then leading_trivia (if received then past_trivia (after_input c raw) else after_input c raw) else [])
before_cases raw c true true = sym (leading_trivia-past_trivia (after_input c raw))
before_cases raw c true false = refl
before_cases raw c false received = refl

pub trivia_before-left : (raw : List RawToken) (steps : List Step) (i : ℕ)
    → trivia_before raw steps i ≡ (if is_receiver steps i then leading_trivia (left_before raw steps i) else [])
trivia_before-left raw steps i = before_cases raw (eaten_before steps i) (is_receiver steps i) (is_received steps (eaten_before steps i) i)

-- ---- the steps

-- fewer steps eat no more
eaten_before-le : (steps : List Step) (k n : ℕ) → k ≤ n → eaten_before steps k ≤ eaten_before steps n
eaten_before-le steps k n le = omega (arith, sum_by-take-le count_of (take n steps) k, ap eaten (take-take k n steps le))

-- no step with fewer tokens before it is one with so many
is_received-later : (steps : List Step) (c n : ℕ) → ((k : ℕ) → k < n → eaten_before steps k < c) → is_received steps c n ≡ false
is_received-later steps c zero below = refl
is_received-later steps c (suc n) below =
    let here : (eaten_before steps n == c) ≡ false = ne_eqb (eaten_before steps n) c (λ e. omega (arith, below n (omega arith))) in
    let before = is_received-later steps c n (λ k lt. below k (omega arith)) in
    rw (and_right (is_receiver steps n) (eaten_before steps n == c) here) before

-- what is left behind c tokens, once trivia was received or not
abbrev pub behind : List RawToken → ℕ → Bool → List RawToken
behind raw c received = if received then past_trivia (after_input c raw) else after_input c raw

past_trivia-behind : (raw : List RawToken) (c : ℕ) (received : Bool) → past_trivia (behind raw c received) ≡ past_trivia (after_input c raw)
past_trivia-behind raw c true = past_trivia-past_trivia (after_input c raw)
past_trivia-behind raw c false = refl

behind-or : (raw : List RawToken) (c : ℕ) (receiver received : Bool)
    → behind raw c (receiver || received) ≡ (if receiver then past_trivia (behind raw c received) else behind raw c received)
behind-or raw c true received = sym (past_trivia-behind raw c received)
behind-or raw c false received = refl

-- at the same count one more step received
pub is_received-same : (steps : List Step) (c i : ℕ) → eaten_before steps i ≡ c → is_received steps c (i + 1) ≡ (is_receiver steps i || is_received steps c i)
is_received-same steps c i e =
    let here = ap (λ b. is_receiver steps i && b) (eq-eqb (eaten_before steps i) c e) ∙ and-true (is_receiver steps i) in
    ap (is_received steps c) (add-one i) ∙ ap (λ b. b || is_received steps c i) here

module _ (raw : List RawToken) (steps : List Step) (i : ℕ) (step : Step) (lt : i < length steps) (at : get_or steps i step ≡ step) where
  -- a step that eats nothing leaves the raw tokens as they were at it
  pub left_before-other : count_of step ≡ 0 → left_before raw steps (i + 1) ≡ left_at raw steps i
  left_before-other none =
      let c = eaten_before steps i in
      let same : eaten_before steps (i + 1) ≡ c = omega (arith, eaten-take_more steps i step lt at) in
      ap (λ c. behind raw c (is_received steps c (i + 1))) same
      ∙ (ap (behind raw c) (is_received-same steps c i refl) ∙ behind-or raw c (is_receiver steps i) (is_received steps c i))

  module _ (some : 1 ≤ count_of step) where
    -- behind a token nothing is received yet
    is_received-token : is_received steps (eaten_before steps (i + 1)) (i + 1) ≡ false
    is_received-token =
        is_received-later steps (eaten_before steps (i + 1)) (i + 1)
        (λ k low. omega (arith, eaten_before-le steps k i (omega arith), eaten-take_more steps i step lt at))

    pub left_before-token : left_before raw steps (i + 1) ≡ after_input (eaten_before steps i + count_of step) raw
    left_before-token =
        ap (behind raw (eaten_before steps (i + 1))) is_received-token ∙ ap (λ c. after_input c raw) (eaten-take_more steps i step lt at)

  -- a receiver stands directly before the next token of the input
  pub left_at-receiver : is_receiver steps i ≡ true → left_at raw steps i ≡ past_trivia (after_input (eaten_before steps i) raw)
  left_at-receiver receiver =
      let c = eaten_before steps i in
      let left = left_before raw steps i in
      ap (λ b. if b then past_trivia left else left) receiver ∙ past_trivia-behind raw c (is_received steps c i)
