-- A tracker says whether the steps that it has seen stand in one root, errors aside.
use Rattle.std.proofs.Common.{◌≡◌, ◌∙◌, ℕ, zero, suc, ◌+◌, ◌-◌, ◌<◌, ◌≤◌, List, [], ◌∷◌, ap, cond, length, take, arith, sym, subst, refl}
use Rattle.std.specs.Prelude.{◌==◌, ◌↔◌, IsTrue}
use Rattle.std.specs.List.{fold}
use Rattle.std.proofs.Math.Dec.{eqb-suc-zero}
use Rattle.std.proofs.lemmas.Bool.{and_parts, eqb-true, false≢true, ne_eqb}
use Rattle.squawk_output.specs.OneRoot.{StandsInOneRoot}
use Rattle.squawk_output.specs.RootTracker.{Tracked, tracked_of, tracked, is_one_root, untracked}
use Rattle.squawk_output.specs.Steps.{Step, Token, Enter, Exit, Error, is_enter, is_error, is_exit, closings, errors_in, openings, without_errors}
use Rattle.squawk_output.proofs.Sums.{count_by-cons}
use Rattle.squawk_output.specs.declared.output.root_tracker.RootTracker.{RootTracker}

-- the number of steps, of open nodes behind them, and of steps that found none open
abbrev behind : ℕ → ℕ → ℕ → Tracked
behind count depth top_level = record { count = count; tracker = record { depth = depth; top_level = top_level } }

-- whether the tracker that has seen these steps, too, finds one root
abbrev is_root : Tracked → List Step → Type 0
is_root so_far steps = IsTrue (is_one_root (fold tracked so_far steps).tracker (fold tracked so_far steps).count)

-- two steps that found none open are not in one root
spoilt : (count depth top_level : ℕ) (steps : List Step) → 1 < top_level → ¬ (is_root (behind count depth top_level) steps)
spoilt count depth top_level [] more told = omega (arith, more, eqb-true top_level 1 (and_parts _ _ told).0)
spoilt count depth top_level (Token kind n ∷ steps) more told = spoilt (count + 1) depth (top_level + cond (depth == 0) 1 0) steps (omega (arith, more)) told
spoilt count depth top_level (Enter kind ∷ steps) more told = spoilt (count + 1) (depth + 1) (top_level + cond (depth == 0) 1 0) steps (omega (arith, more)) told
spoilt count depth top_level (Exit ∷ steps) more told = spoilt (count + 1) (depth - 1) (top_level + cond (depth == 0) 1 0) steps (omega (arith, more)) told
spoilt count depth top_level (Error text ∷ steps) more told = spoilt count depth top_level steps more told

-- nor is one alone that leaves none open
late : (steps : List Step) → ¬ (is_root (behind 1 0 1) steps)
late [] told = false≢true told
late (Token kind n ∷ steps) told = spoilt 2 0 2 steps (omega arith) told
late (Enter kind ∷ steps) told = spoilt 2 1 2 steps (omega arith) told
late (Exit ∷ steps) told = spoilt 2 0 2 steps (omega arith) told
late (Error text ∷ steps) told = late steps told

-- steps that close this many nodes, and the last of these by the last step
record Closes (depth : ℕ) (steps : List Step) : Type 0 where
  inside : (k : ℕ) → k < length steps → closings (take k steps) < depth + openings (take k steps)
  closed : closings steps ≡ depth + openings steps

-- one step more in front
module _ (depth after : ℕ) (step : Step) (steps : List Step) (counts : after + cond (is_exit step) 1 0 ≡ depth + cond (is_enter step) 1 0) where
  inside-cons : Closes after steps → (k : ℕ) → 0 < depth + k → k < length (step ∷ steps) → closings (take k (step ∷ steps)) < depth + openings (take k (step ∷ steps))
  inside-cons closes zero some lt = omega arith
  inside-cons closes (suc k) some lt = omega (arith, closes.inside k (omega arith), count_by-cons is_enter step (take k steps), count_by-cons is_exit step (take k steps))

  closed-cons : Closes after steps → closings (step ∷ steps) ≡ depth + openings (step ∷ steps)
  closed-cons closes = omega (arith, closes.closed, count_by-cons is_enter step steps, count_by-cons is_exit step steps)

  closes-behind : ((k : ℕ) → 0 < k → k < length (step ∷ steps) → closings (take k (step ∷ steps)) < depth + openings (take k (step ∷ steps)))
      → closings (step ∷ steps) ≡ depth + openings (step ∷ steps) → Closes after steps
  closes-behind inside closed = record {
    inside = λ k lt. omega (arith, inside (suc k) (omega arith) (omega arith), count_by-cons is_enter step (take k steps), count_by-cons is_exit step (take k steps));
    closed = omega (arith, closed, count_by-cons is_enter step steps, count_by-cons is_exit step steps);
  }

-- what a step inside of a node leaves to the rest
inside : (A : Type 0) (depth after : ℕ) (step : Step) (steps : List Step) → after + cond (is_exit step) 1 0 ≡ suc depth + cond (is_enter step) 1 0
    → A ↔ Closes after steps → A ↔ Closes (suc depth) (step ∷ steps)
inside A depth after step steps counts both = (
  λ told.
      let closes = both.0 told in
      record { inside = λ k lt. inside-cons (suc depth) after step steps counts closes k (omega arith) lt; closed = closed-cons (suc depth) after step steps counts closes },
  λ closes. both.1 (closes-behind (suc depth) after step steps counts (λ k some lt. closes.inside k lt) closes.closed),
)

-- where no node is open nothing may follow
ended : (count : ℕ) (step : Step) (steps : List Step) → ¬ (is_root (behind count 0 1) (step ∷ steps)) → is_root (behind count 0 1) (step ∷ steps) ↔ Closes 0 (step ∷ without_errors steps)
ended count step steps spoils = (λ told. absurd (spoils told), λ closes. absurd (omega (arith, closes.inside 0 (omega arith))))

-- a tracker that has seen a node's opening says whether the last step closes it
is_root-closes : (count depth : ℕ) (steps : List Step) → 0 < count → (depth ≡ 0 → 1 < count) → is_root (behind count depth 1) steps ↔ Closes depth (without_errors steps)
is_root-closes count zero [] some more = (
  λ told. record { inside = λ k lt. absurd (omega arith); closed = refl },
  λ closes. rw (ne_eqb count 0 (λ none. omega (arith, some, none)), ne_eqb count 1 (λ one. omega (arith, more refl, one))) refl,
)
is_root-closes count (suc depth) [] some more = (
  λ told. absurd (false≢true (sym (eqb-suc-zero depth) ∙ (and_parts _ _ told).0)),
  λ closes. absurd (omega (arith, closes.closed)),
)
is_root-closes count zero (Token kind n ∷ steps) some more = ended count (Token kind n) steps (spoilt (count + 1) 0 2 steps (omega arith))
is_root-closes count zero (Enter kind ∷ steps) some more = ended count (Enter kind) steps (spoilt (count + 1) 1 2 steps (omega arith))
is_root-closes count zero (Exit ∷ steps) some more = ended count Exit steps (spoilt (count + 1) 0 2 steps (omega arith))
is_root-closes count (suc depth) (Token kind n ∷ steps) some more =
    inside (is_root (behind count (suc depth) 1) (Token kind n ∷ steps)) depth (suc depth) (Token kind n) (without_errors steps) refl
    (subst (λ b. is_root (behind (count + 1) (suc depth) (1 + cond b 1 0)) steps ↔ Closes (suc depth) (without_errors steps)) (sym (eqb-suc-zero depth))
    (is_root-closes (count + 1) (suc depth) steps (omega arith) (λ none. absurd (omega (arith, none)))))
is_root-closes count (suc depth) (Enter kind ∷ steps) some more =
    inside (is_root (behind count (suc depth) 1) (Enter kind ∷ steps)) depth (suc depth + 1) (Enter kind) (without_errors steps) (omega arith)
    (subst (λ b. is_root (behind (count + 1) (suc depth + 1) (1 + cond b 1 0)) steps ↔ Closes (suc depth + 1) (without_errors steps)) (sym (eqb-suc-zero depth))
    (is_root-closes (count + 1) (suc depth + 1) steps (omega arith) (λ none. absurd (omega (arith, none)))))
is_root-closes count (suc depth) (Exit ∷ steps) some more =
    inside (is_root (behind count (suc depth) 1) (Exit ∷ steps)) depth (suc depth - 1) Exit (without_errors steps) (omega arith)
    (subst (λ b. is_root (behind (count + 1) (suc depth - 1) (1 + cond b 1 0)) steps ↔ Closes (suc depth - 1) (without_errors steps)) (sym (eqb-suc-zero depth))
    (is_root-closes (count + 1) (suc depth - 1) steps (omega arith) (λ none. omega (arith, some))))
is_root-closes count depth (Error text ∷ steps) some more = is_root-closes count depth steps some more

root-told : (steps : List Step) → IsTrue (is_one_root (tracked_of steps).tracker (tracked_of steps).count) ↔ StandsInOneRoot (without_errors steps)
root-told [] = (λ told. absurd (false≢true told), λ root. absurd root.begins)
root-told (Token kind n ∷ steps) = (λ told. absurd (late steps told), λ root. absurd root.begins)
root-told (Exit ∷ steps) = (λ told. absurd (late steps told), λ root. absurd root.begins)
root-told (Enter kind ∷ steps) =
    let rest = without_errors steps in
    let told-closes = is_root-closes 1 1 steps (omega arith) (λ none. absurd (omega (arith, none))) in (
      λ told.
          let closes = told-closes.0 told in
          record {
            begins = tt;
            inside = λ k some lt. omega (arith, inside-cons 0 1 (Enter kind) rest refl closes k (omega arith) lt);
            closed = omega (arith, closed-cons 0 1 (Enter kind) rest refl closes);
          },
      λ root. told-closes.1 (closes-behind 0 1 (Enter kind) rest refl (λ k some lt. omega (arith, root.inside k some lt)) (omega (arith, root.closed))),
    )
root-told (Error text ∷ steps) = root-told steps

pub tracked_in_one_root : (steps : List Step) (count : ℕ) (tracker : RootTracker) → tracked_of steps ≡ record { count = count; tracker = tracker } → IsTrue (is_one_root tracker count) ↔ StandsInOneRoot (without_errors steps)
tracked_in_one_root steps count tracker is = subst (λ n. IsTrue (is_one_root n.tracker n.count) ↔ StandsInOneRoot (without_errors steps)) is (root-told steps)

-- ---- and how many of them are errors

counted : (so_far : Tracked) (steps : List Step) → (fold tracked so_far steps).count + errors_in steps ≡ so_far.count + length steps
counted so_far [] = refl
counted so_far (Token kind n ∷ steps) = omega (arith, counted (tracked so_far (Token kind n)) steps, count_by-cons is_error (Token kind n) steps)
counted so_far (Enter kind ∷ steps) = omega (arith, counted (tracked so_far (Enter kind)) steps, count_by-cons is_error (Enter kind) steps)
counted so_far (Exit ∷ steps) = omega (arith, counted (tracked so_far Exit) steps, count_by-cons is_error Exit steps)
counted so_far (Error text ∷ steps) = omega (arith, counted so_far steps, count_by-cons is_error (Error text) steps)

pub tracked_errors : (steps : List Step) (all errors : ℕ) (tracker : RootTracker) → tracked_of steps ≡ record { count = all - errors; tracker = tracker }
    → length steps ≡ all → errors ≤ all → errors ≡ errors_in steps
tracked_errors steps all errors tracker is whole within = omega (arith, counted (record { count = 0; tracker = untracked }) steps, ap (λ so_far. so_far.count) is, whole, within)
