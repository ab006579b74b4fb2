-- Marking a row.
use Rattle.std.proofs.Common.{◌≡◌, ℕ, ◌<◌, ◌⊎◌, inl, inr, List, [], ◌∷◌, zero, suc, Bool, true, false, not, length, get_or, refl, arith, cond}
use Rattle.std.specs.List.{count_by}
use Rattle.std.proofs.Math.ListN.{set}
use Rattle.std.proofs.lemmas.List.Sums.{sum_by-set}
use Rattle.rule_checks.specs.Sets.{has}

pub has-within : (marks : List Bool) (k : ℕ) → has marks k ≡ false → k < length marks
has-within [] k unmarked = absurd (cc)
has-within (b ∷ marks) zero unmarked = omega arith
has-within (b ∷ marks) (suc k) unmarked = let within = has-within marks k unmarked in omega arith

pub has-unmarked : (marks : List Bool) (k : ℕ) → k < length marks → get_or marks k false ≡ false → has marks k ≡ false
has-unmarked [] k within unmarked = absurd (omega arith)
has-unmarked (b ∷ marks) zero within unmarked = unmarked
has-unmarked (b ∷ marks) (suc k) within unmarked = has-unmarked marks k (omega arith) unmarked

pub has-set_only : (marks : List Bool) (k m : ℕ) → has (set marks k true) m ≡ true → (k ≡ m) ⊎ (has marks m ≡ true)
has-set_only [] k m marked = inr refl
has-set_only (b ∷ marks) zero zero marked = inl refl
has-set_only (b ∷ marks) zero (suc m) marked = inr marked
has-set_only (b ∷ marks) (suc k) zero marked = inr marked
has-set_only (b ∷ marks) (suc k) (suc m) marked = elim (has-set_only marks k m marked) [ inl same ↦ inl (cc) | inr before ↦ inr before ]

pub has-set_keeps : (marks : List Bool) (k m : ℕ) → has marks m ≡ true → has (set marks k true) m ≡ true
has-set_keeps [] k m marked = refl
has-set_keeps (b ∷ marks) zero zero marked = refl
has-set_keeps (b ∷ marks) zero (suc m) marked = marked
has-set_keeps (b ∷ marks) (suc k) zero marked = marked
has-set_keeps (b ∷ marks) (suc k) (suc m) marked = has-set_keeps marks k m marked

pub fewer : (marks : List Bool) (k : ℕ) → has marks k ≡ false → count_by not (set marks k true) < count_by not marks
fewer marks k unmarked =
    let within = has-within marks k unmarked in
    let moved = sum_by-set (λ b. cond (not b) 1 0) marks k true true within in
    let one = rw unmarked at moved in
    omega arith
