-- What comes after a row.
use Rattle.std.proofs.Common.{◌≡◌, ℕ, ◌⊎◌, inl, inr, List, Bool, true, false, refl, subst, sym, Vec}
use Rattle.std.specs.Prelude.{◌↔◌}
use Rattle.std.proofs.Math.ListN.{set}
use Rattle.std.specs.declared.alloc.Global.{Global}
use Rattle.rule_checks.specs.Sets.{has}
use Rattle.rule_checks.specs.Steps.{After, HaveEnded, IsClosedFrom, Lists, more, one}
use Rattle.rule_checks.proofs.Marks.{has-set_keeps, has-set_only}

pub after_step : (leads : ℕ → ℕ → Type 0) (from k m : ℕ) → (k ≡ from) ⊎ After leads from k → leads k m → After leads from m
after_step leads from k m known step = elim known [ inl first ↦ one (subst (λ n. leads n m) first step) | inr after ↦ more after step ]

-- A closed set has all that comes after.
pub after_in : (leads : ℕ → ℕ → Type 0) (from : ℕ) (set : ℕ → Bool) → IsClosedFrom leads from set → {k : ℕ} → After leads from k → set k ≡ true
after_in leads from set closed (one {k} step) = closed from k (inl refl) step
after_in leads from set closed (more {i} {k} after step) = closed i k (inr (after_in leads from set closed after)) step

after_also : (leads others : ℕ → ℕ → Type 0) (from : ℕ) → ((i j : ℕ) → leads i j → others i j) → {k : ℕ} → After leads from k → After others from k
after_also leads others from also (one {k} step) = one (also from k step)
after_also leads others from also (more {i} {k} after step) = more (after_also leads others from also after) (also i k step)

pub after_same : (leads others : ℕ → ℕ → Type 0) (from k : ℕ) → ((i j : ℕ) → leads i j ↔ others i j) → After leads from k ↔ After others from k
after_same leads others from k same = (after_also leads others from (λ i j. (same i j).0), after_also others leads from (λ i j. (same i j).1))

-- A row is marked that leads to marked rows alone.
pub ended_more : (lists : List (Vec ℕ Global)) (marks : List Bool) (k : ℕ) → HaveEnded lists marks → has marks k ≡ false
    → ((m : ℕ) → Lists lists k m → has marks m ≡ true) → HaveEnded lists (set marks k true)
ended_more lists marks k ended unmarked all = record {
  stay = λ i m marked step. has-set_keeps marks k m (elim (has-set_only marks k i marked) [
    | inl same ↦ all m (subst (λ n. Lists lists n m) (sym same) step)
    | inr before ↦ ended.stay i m before step
  ]);
  end = λ i within marked. elim (has-set_only marks k i marked) [
    | inl same ↦ subst (λ n. After (Lists lists) n n → ⊥) same
        (λ after. let again = after_in (Lists lists) k (has marks) (λ i j known step. elim known [ inl first ↦ all j (subst (λ n. Lists lists n j) first step) | inr before ↦ ended.stay i j before step ]) after in cc)
    | inr before ↦ ended.end i within before
  ];
}
