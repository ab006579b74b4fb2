-- A list for each row.
use Rattle.std.proofs.Common.{◌≡◌, ℕ, ◌<◌, ◌≤◌, ◌⊎◌, ◌++◌, ◌∷◌, [], zero, suc, inl, inr, List, length, get_or, refl, subst, sym, arith, Some, Option, Vec}
use Rattle.std.specs.Prelude.{Contains, ◌↔◌, slice_get, IsSomeAnd}
use Rattle.std.specs.declared.alloc.Global.{Global}
use Rattle.std.proofs.Math.ListN.{length-append}
use Rattle.std.proofs.Math.Nat.{eq-or-lt_of_le}
use Rattle.std.proofs.lemmas.Bool.{cases_lt}
use Rattle.std.proofs.lemmas.Option.{slice_get_past, slice_get_read}
use Rattle.rule_checks.specs.Steps.{Lists}

pub iff_then : {A B C : Type 0} → A ↔ B → B ↔ C → A ↔ C
iff_then ab bc = (λ a. bc.0 (ab.0 a), λ c. ab.1 (bc.1 c))

pub lists-at : (lists : List (Vec ℕ Global)) (k m : ℕ) (list : Vec ℕ Global) → k < length lists → list ≡ get_or lists k list → Contains list.items m ↔ Lists lists k m
lists-at lists k m list within is =
    subst (λ (o : Option (Vec ℕ Global)). Contains list.items m ↔ IsSomeAnd o (λ v. Contains v.items m)) (sym (slice_get_read lists (length lists) k list refl within is))
    ((λ contained. contained), (λ contained. contained))

pub lists-past : (lists : List (Vec ℕ Global)) (k m : ℕ) → length lists ≤ k → Lists lists k m → ⊥
lists-past lists k m past listed = subst (λ (o : Option (Vec ℕ Global)). IsSomeAnd o (λ v. Contains v.items m)) (slice_get_past lists k past) listed

-- Those for the first rows are made.
pub record Made (P : ℕ → ℕ → Type 0) (lists : List (Vec ℕ Global)) : Type 0 where
  pub is : (k m : ℕ) → k < length lists → Lists lists k m ↔ P k m

slice_get-push : (lists : List (Vec ℕ Global)) (k : ℕ) (list : Vec ℕ Global) → k < length lists → slice_get (lists ++ list ∷ []) k ≡ slice_get lists k
slice_get-push [] k list within = absurd (omega arith)
slice_get-push (v ∷ lists) zero list within = refl
slice_get-push (v ∷ lists) (suc k) list within = slice_get-push lists k list (omega arith)

slice_get-last : (lists : List (Vec ℕ Global)) (k : ℕ) (list : Vec ℕ Global) → length lists ≡ k → slice_get (lists ++ list ∷ []) k ≡ Some list
slice_get-last [] zero list is = refl
slice_get-last [] (suc k) list is = absurd (omega arith)
slice_get-last (v ∷ lists) zero list is = absurd (omega arith)
slice_get-last (v ∷ lists) (suc k) list is = slice_get-last lists k list (omega arith)

same-option : (P : ℕ → Type 0) (o o' : Option (Vec ℕ Global)) (m : ℕ) → o ≡ o' → IsSomeAnd o' (λ v. Contains v.items m) ↔ P m → IsSomeAnd o (λ v. Contains v.items m) ↔ P m
same-option P o o' m same is = rw same is

made_at : (P : ℕ → ℕ → Type 0) (lists : List (Vec ℕ Global)) (list : Vec ℕ Global) → Made P lists → ((m : ℕ) → Contains list.items m ↔ P (length lists) m)
    → (k m : ℕ) → (k ≡ length lists) ⊎ (k < length lists) → Lists (lists ++ list ∷ []) k m ↔ P k m
made_at P lists list made is k m at = elim at [
  | inr within ↦ same-option (P k) (slice_get (lists ++ list ∷ []) k) (slice_get lists k) m (slice_get-push lists k list within) (made.is k m within)
  | inl last ↦ same-option (P k) (slice_get (lists ++ list ∷ []) k) (Some list) m (slice_get-last lists k list (sym last)) (rw last (is m))
]

pub made_more : (P : ℕ → ℕ → Type 0) (lists longer : List (Vec ℕ Global)) (list : Vec ℕ Global) → Made P lists → longer ≡ lists ++ list ∷ []
    → ((m : ℕ) → Contains list.items m ↔ P (length lists) m) → Made P longer
made_more P lists longer list made longer_is is = rw longer_is record {
  is = λ k m within. made_at P lists list made is k m (eq-or-lt_of_le (let below = simp length-append at within in omega arith));
}

pub made_all : (P : ℕ → ℕ → Type 0) (lists : List (Vec ℕ Global)) → Made P lists → ((k m : ℕ) → length lists ≤ k → P k m → ⊥)
    → (k m : ℕ) → Lists lists k m ↔ P k m
made_all P lists made none k m = elim (cases_lt k (length lists)) [
  | inl within ↦ made.is k m within
  | inr past ↦ ((λ listed. absurd (lists-past lists k m past listed)), (λ p. absurd (none k m past p)))
]
