-- Balanced walks, by the depth that they reach.
use Rattle.std.proofs.Common.{◌≡◌, ℕ, zero, suc, ◌+◌, ◌≤◌, Option, Some, None, List, [], ◌∷◌, ◌++◌, cond, take, arith, ap, refl, ◌∙◌}
use Rattle.squawk_output.specs.Steps.{Step, Token, Enter, Exit, Error, openings, closings, is_enter, is_exit}
use Rattle.squawk_output.specs.OneRoot.{IsBalanced}
use Rattle.squawk_output.proofs.Sums.{count_by-cons}

-- the depth after a walk from a depth, if it never leaves more than it has entered
abbrev pub depth_after : ℕ → List Step → Option ℕ
depth_after d [] = Some d
depth_after d (Token kind n ∷ steps) = depth_after d steps
depth_after d (Enter kind ∷ steps) = depth_after (suc d) steps
depth_after zero (Exit ∷ steps) = None
depth_after (suc d) (Exit ∷ steps) = depth_after d steps
depth_after d (Error text ∷ steps) = depth_after d steps

pub depth_after-append : (d e : ℕ) (xs ys : List Step) → depth_after d xs ≡ Some e → depth_after d (xs ++ ys) ≡ depth_after e ys
depth_after-append d e [] ys h = let same : d ≡ e = cc in ap (λ n. depth_after n ys) same
depth_after-append d e (Token kind n ∷ xs) ys h = depth_after-append d e xs ys h
depth_after-append d e (Enter kind ∷ xs) ys h = depth_after-append (suc d) e xs ys h
depth_after-append zero e (Exit ∷ xs) ys h = absurd (cc)
depth_after-append (suc d) e (Exit ∷ xs) ys h = depth_after-append d e xs ys h
depth_after-append d e (Error text ∷ xs) ys h = depth_after-append d e xs ys h

-- one deeper at the start is one deeper at the end
pub depth_after-suc : (d e : ℕ) (xs : List Step) → depth_after d xs ≡ Some e → depth_after (suc d) xs ≡ Some (suc e)
depth_after-suc d e [] h = let same : d ≡ e = cc in ap (λ n. Some (suc n)) same
depth_after-suc d e (Token kind n ∷ xs) h = depth_after-suc d e xs h
depth_after-suc d e (Enter kind ∷ xs) h = depth_after-suc (suc d) e xs h
depth_after-suc zero e (Exit ∷ xs) h = absurd (cc)
depth_after-suc (suc d) e (Exit ∷ xs) h = depth_after-suc d e xs h
depth_after-suc d e (Error text ∷ xs) h = depth_after-suc d e xs h

-- no beginning leaves more than d nodes and those that it enters
abbrev NeverBelow : ℕ → List Step → Type 0
NeverBelow d xs = (k : ℕ) → closings (take k xs) ≤ d + openings (take k xs)

pub record Reaches (d e : ℕ) (xs : List Step) : Type 0 where
  pub never_below : NeverBelow d xs
  pub end : closings xs + e ≡ d + openings xs

abbrev down : Step → ℕ
down step = cond (is_exit step) 1 0

abbrev up : Step → ℕ
up step = cond (is_enter step) 1 0

-- a step leads from depth d to depth i
module _ (d i : ℕ) (step : Step) (leads : down step + i ≡ d + up step) where
  step-first : {e : ℕ} {xs : List Step} → Reaches i e xs → Reaches d e (step ∷ xs)
  step-first {e} {xs} r = record {
    never_below = elim [ zero ↦ omega arith | suc k ↦ omega (arith, leads, r.never_below k, count_by-cons is_exit step (take k xs), count_by-cons is_enter step (take k xs)) ];
    end = omega (arith, leads, r.end, count_by-cons is_exit step xs, count_by-cons is_enter step xs);
  }

  step-past : {xs : List Step} → NeverBelow d (step ∷ xs) → NeverBelow i xs
  step-past {xs} h k = omega (arith, leads, h (suc k), count_by-cons is_exit step (take k xs), count_by-cons is_enter step (take k xs))

pub reached : (d e : ℕ) (xs : List Step) → depth_after d xs ≡ Some e → Reaches d e xs
reached d e [] h = let same : d ≡ e = cc in record { never_below = elim [ zero ↦ omega arith | suc k ↦ omega arith ]; end = omega arith }
reached d e (Token kind n ∷ xs) h = step-first d d (Token kind n) (omega arith) (reached d e xs h)
reached d e (Enter kind ∷ xs) h = step-first d (suc d) (Enter kind) (omega arith) (reached (suc d) e xs h)
reached zero e (Exit ∷ xs) h = absurd (cc)
reached (suc d) e (Exit ∷ xs) h = step-first (suc d) d Exit (omega arith) (reached d e xs h)
reached d e (Error text ∷ xs) h = step-first d d (Error text) (omega arith) (reached d e xs h)

pub reaches : (d : ℕ) (xs : List Step) → NeverBelow d xs → (e : ℕ) × (depth_after d xs ≡ Some e)
reaches d [] h = (d, refl)
reaches d (Token kind n ∷ xs) h = reaches d xs (step-past d d (Token kind n) (omega arith) h)
reaches d (Enter kind ∷ xs) h = reaches (suc d) xs (step-past d (suc d) (Enter kind) (omega arith) h)
reaches zero (Exit ∷ xs) h = absurd (let first : closings (Exit ∷ []) ≡ 1 = refl in let none : openings (Exit ∷ []) ≡ 0 = refl in omega (arith, h 1, first, none))
reaches (suc d) (Exit ∷ xs) h = reaches d xs (step-past (suc d) d Exit (omega arith) h)
reaches d (Error text ∷ xs) h = reaches d xs (step-past d d (Error text) (omega arith) h)

-- a balanced walk comes back to where it began
pub depth_after-balanced : (xs : List Step) → IsBalanced xs → depth_after 0 xs ≡ Some 0
depth_after-balanced xs b =
    let r = reaches 0 xs (λ k. omega (arith, b.never_below k)) in
    let end = (reached 0 r.0 xs r.1).end in
    let back : r.0 ≡ 0 = omega (arith, end, b.closed) in
    r.1 ∙ ap Some back

pub IsBalanced-depth_after : (xs : List Step) → depth_after 0 xs ≡ Some 0 → IsBalanced xs
IsBalanced-depth_after xs h =
    let r = reached 0 0 xs h in
    record { never_below = λ k. omega (arith, r.never_below k); closed = omega (arith, r.end) }
