-- The next step of a walk that is sent from a raw token on.
use Rattle.std.proofs.Common.{Option, None, Some, if◌then◌else◌, ◌≡◌, ◌∙◌, ℕ, ◌+◌, ◌<◌, ◌≤◌, true, List, [], ◌∷◌, ◌++◌, map, length, length-append, slice_index, add-zero, arith, ap, sym, subst, refl, ◌⊎◌, inl, inr}
use Rattle.std.specs.Iterator.{UpTo, at_most, MakesProgress, item_count}
use Rattle.std.specs.Prelude.{◌==◌, SomeIff, IfSome}
use Rattle.std.proofs.lemmas.Bool.{cases_Bool, cases_lt}
use Rattle.std.proofs.lemmas.List.{length-map}
use Rattle.squawk_kinds.specs.Kinds.{is_trivia}
use Rattle.squawk_table.specs.RawTable.{Table, RawToken, raw_at, raw_after}
use Rattle.squawk_table.specs.Sending.{sent_here, HasTokens, next_raw, receives_at, depth_behind, trivia_here, raw_here, sent_from, end_from, HaveTokens}
use Rattle.squawk_table.specs.Sent.{sent_raw, leading_trivia}
use Rattle.squawk_table.specs.SinkViews.{behind_pending}
use Rattle.squawk_table.specs.StrWalk.{StrWalk, TakesStep, TakesRawToken, walk_from, CanGoOn}
use Rattle.squawk_output.specs.StepViews.{step_of}
use Rattle.squawk_output.specs.declared.output.step.Step.{Step as Lent}
use Rattle.squawk_output.specs.Steps.{Step, Token, Enter, Exit, Error}
use Rattle.squawk_table.specs.declared.shortcuts.str_step.OwnedStep.{OwnedStep}
use Rattle.squawk_table.proofs.RawTokens.{raw_after-next, raw_after-end}
use Rattle.squawk_table.proofs.Trivia.{leading_trivia-more}

-- the next raw token is trivia that goes before the step
abbrev pub HasTriviaBefore : Table → ℕ → ℕ → Step → Type 0
HasTriviaBefore t raw depth step = (raw < length t.kinds) × (is_trivia (slice_index t.kinds raw) ≡ true) × (receives_at depth step ≡ true)

-- a walk gives an item and goes on
abbrev pub Gives : StrWalk → OwnedStep → StrWalk → Type 0
Gives before item after = (before.steps ≡ item ∷ after.steps) × ((after.eaten_all ≡ before.eaten_all) × (TakesStep before after ⊎ TakesRawToken before after))

-- The current step of a walk, and the steps that are left behind it, where none is pending.
pub record AtHand (before : StrWalk) (t : Table) (raw last depth : ℕ) (pending : Option Lent) (step : Step) (left : List Step) : Type 0 where
  pub walk : before ≡ walk_from t raw depth (step ∷ left)
  pub none : behind_pending pending left ≡ left
  pub end : last ≡ length t.kinds
  pub can : CanGoOn t raw depth (step ∷ left)

pub at_hand : (before : StrWalk) (t : Table) (raw last depth : ℕ) (pending : Option Lent) (steps : List Step) (step : Lent) (left : List Step)
    → walk_from t raw depth (behind_pending pending steps) ≡ before → (last ≡ length t.kinds) × CanGoOn t raw depth (behind_pending pending steps)
    → behind_pending pending steps ≡ step_of step ∷ left → AtHand before t raw last depth None (step_of step) left
at_hand before t raw last depth pending steps step left walk can next = record {
  walk = sym walk ∙ ap (walk_from t raw depth) next;
  none = refl;
  end = can.0;
  can = subst (CanGoOn t raw depth) next can.1;
}

-- ---- trivia goes before the step

module _ (t : Table) (raw depth : ℕ) (step : Step) (left : List Step) where
  -- what is sent from the step itself on, where this trivia goes before it
  abbrev sent_behind : List RawToken → ℕ → List OwnedStep
  sent_behind trivia at = map sent_raw trivia ++ sent_here t at step ∷ sent_from t (next_raw at step) (depth_behind depth step) left

  module _ (here : HasTriviaBefore t raw depth step) where
    trivia_more : trivia_here t raw depth step ≡ raw_at t raw ∷ trivia_here t (raw + 1) depth step
    trivia_more =
        let receives = here.2 in
        ap (λ b. if b then leading_trivia (raw_after t raw) else []) receives
        ∙ (leading_trivia-more t raw here.0 here.1 ∙ ap (λ b. raw_at t raw ∷ (if b then leading_trivia (raw_after t (raw + 1)) else [])) (sym receives))

    same_raw : raw_here t raw depth step ≡ raw_here t (raw + 1) depth step
    same_raw = omega (arith, ap length trivia_more)

    pub gives_trivia : Gives (walk_from t raw depth (step ∷ left)) (sent_raw (raw_at t raw)) (walk_from t (raw + 1) depth (step ∷ left))
    gives_trivia = (
      ap (λ xs. sent_behind xs (raw_here t raw depth step)) trivia_more
          ∙ ap (λ at. sent_raw (raw_at t raw) ∷ sent_behind (trivia_here t (raw + 1) depth step) at) same_raw,
      (
        ap (λ at. end_from t (next_raw at step) (depth_behind depth step) left == length t.kinds) (sym same_raw),
        inr (refl, omega (arith, here.0)),
      ),
    )

    pub CanGoOn-trivia : CanGoOn t raw depth (step ∷ left) → CanGoOn t (raw + 1) depth (step ∷ left)
    CanGoOn-trivia can = record {
      within = omega (arith, here.0);
      tokens = subst (λ at. HasTokens t at step × HaveTokens t (next_raw at step) (depth_behind depth step) left) same_raw can.tokens;
      few = can.few;
      low = can.low;
    }

-- ---- none goes before it

no_trivia : (t : Table) (raw : ℕ) → ((raw < length t.kinds) → is_trivia (slice_index t.kinds raw) ≡ true → ⊥) → leading_trivia (raw_after t raw) ≡ []
no_trivia t raw none =
    elim (cases_lt raw (length t.kinds)) [
      | inl lt ↦
          elim (cases_Bool (is_trivia (slice_index t.kinds raw))) [
            | inl e ↦ absurd (none lt e)
            | inr e ↦ rw (raw_after-next t raw lt, e) refl
          ]
      | inr past ↦ ap leading_trivia (raw_after-end t raw past)
    ]

next_raw-within : (t : Table) (raw : ℕ) (step : Step) → raw ≤ length t.kinds → HasTokens t raw step → (raw ≤ next_raw raw step) × (next_raw raw step ≤ length t.kinds)
next_raw-within t raw (Token kind n) within has = (omega arith, has.1)
next_raw-within t raw (Enter kind) within has = (omega arith, within)
next_raw-within t raw Exit within has = (omega arith, within)
next_raw-within t raw (Error text) within has = (omega arith, within)

depth_behind-le : (depth : ℕ) (step : Step) → depth_behind depth step ≤ depth + 1
depth_behind-le depth (Token kind n) = omega arith
depth_behind-le depth (Enter kind) = omega arith
depth_behind-le depth Exit = omega arith
depth_behind-le depth (Error text) = omega arith

module _ (t : Table) (raw depth : ℕ) (step : Step) (left : List Step) (none : HasTriviaBefore t raw depth step → ⊥) where
  none_here : trivia_here t raw depth step ≡ []
  none_here =
      elim (cases_Bool (receives_at depth step)) [
        | inl e ↦ rw e (no_trivia t raw (λ lt trivia. none (lt, trivia, e)))
        | inr e ↦ rw e refl
      ]

  at_once : raw_here t raw depth step ≡ raw
  at_once = ap (λ (xs : List RawToken). raw + length xs) none_here ∙ add-zero raw

  pub has_tokens : CanGoOn t raw depth (step ∷ left) → HasTokens t raw step
  has_tokens can = subst (λ at. HasTokens t at step) at_once can.tokens.0

  module _ (can : CanGoOn t raw depth (step ∷ left)) where
    pub gives_step : Gives (walk_from t raw depth (step ∷ left)) (sent_here t raw step) (walk_from t (next_raw raw step) (depth_behind depth step) left)
    gives_step =
        let within = next_raw-within t raw step can.within (has_tokens can) in (
          ap (λ xs. sent_behind t raw depth step left xs (raw_here t raw depth step)) none_here ∙ ap (sent_behind t raw depth step left []) at_once,
          (
            ap (λ at. end_from t (next_raw at step) (depth_behind depth step) left == length t.kinds) (sym at_once),
            inl (omega arith, omega (arith, within)),
          ),
        )

    pub CanGoOn-step : CanGoOn t (next_raw raw step) (depth_behind depth step) left
    CanGoOn-step =
        let within = next_raw-within t raw step can.within (has_tokens can) in
        record {
          within = within.1;
          tokens = subst (λ at. HaveTokens t (next_raw at step) (depth_behind depth step) left) at_once can.tokens.1;
          few = can.few;
          low = omega (arith, can.low, depth_behind-le depth step);
        }

-- ---- how many items come

-- as many as steps are left, and no more than those and the raw tokens that are left
pub length-sent_from : (t : Table) (raw depth : ℕ) (left : List Step)
    → (length left ≤ length (sent_from t raw depth left)) × (length (sent_from t raw depth left) + raw ≤ length left + end_from t raw depth left)
length-sent_from t raw depth [] = (omega arith, omega arith)
length-sent_from t raw depth (step ∷ left) =
    let trivia = map sent_raw (trivia_here t raw depth step) in
    let at = raw_here t raw depth step in
    let after = sent_from t (next_raw at step) (depth_behind depth step) left in
    let rest = length-sent_from t (next_raw at step) (depth_behind depth step) left in
    let far = next_raw-ge at step in
    let all = length-append trivia (sent_here t at step ∷ after) in
    let same = length-map (trivia_here t raw depth step) sent_raw in
    (omega arith, omega arith)
  where
    next_raw-ge : (at : ℕ) (step : Step) → at ≤ next_raw at step
    next_raw-ge at (Token kind n) = omega arith
    next_raw-ge at (Enter kind) = omega arith
    next_raw-ge at Exit = omega arith
    next_raw-ge at (Error text) = omega arith

pub end_within : (t : Table) (raw depth : ℕ) (left : List Step) → HaveTokens t raw depth left → end_from t raw depth left ≤ length t.kinds
end_within t raw depth [] have = have
end_within t raw depth (step ∷ left) have =
    let at = raw_here t raw depth step in
    end_within t (next_raw at step) (depth_behind depth step) left have.1

-- a bound, if it is a number of 64 bits
pub at_most_so_many : (told : Option ℕ) (Fits : Type 0) (bound n : ℕ) → SomeIff told Fits bound → n ≤ bound → IfSome told (UpTo (at_most n))
at_most_so_many None Fits bound n is le = tt
at_most_so_many (Some x) Fits bound n is le = (tt, omega (arith, is.1))

-- ---- each item brings the end nearer

pub progress : {A : Type 0} (before after : StrWalk) (answer : A) (item : OwnedStep) → before.steps ≡ item ∷ after.steps
    → MakesProgress (λ _. Unit {0}) (item_count (λ s. s.steps)) before (Some answer) after
progress before after answer item is = record { on = λ _. (tt, tt, omega (arith, ap length is)); keeps = tt; rests = λ _. tt }

-- ---- behind the last step

-- where nothing is sent any more, all raw tokens are sent
pub none_from : (t : Table) (raw depth : ℕ) (left : List Step) → sent_from t raw depth left ≡ [] → end_from t raw depth left ≡ raw
none_from t raw depth [] none = refl
none_from t raw depth (step ∷ left) none =
    let trivia = map sent_raw (trivia_here t raw depth step) in
    let at = raw_here t raw depth step in
    let rest = sent_from t (next_raw at step) (depth_behind depth step) left in
    absurd (omega (arith, ap length none, length-append trivia (sent_here t at step ∷ rest)))
