-- Lists with an element more at the end, or with another one at an index.
use Rattle.std.proofs.Common.{◌≡◌, ◌≢◌, ◌∙◌, inl, inr, ℕ, zero, suc, ◌<◌, List, [], ◌∷◌, ◌++◌, length, arith, subst, Contains, slice_index_or, slice_set}
use Rattle.std.proofs.lemmas.Bool.{cases_eq, cases_lt}
use Rattle.std.proofs.lemmas.List.{get_or-set_other, get_or-set_same, get_or_default, get_or_past, get_or_push, length-set}

module _ {X : Type 0} (d : X) where
  -- an index that has another element than the default is one of the list's
  pub within : (xs : List X) (k : ℕ) → (slice_index_or xs k d ≡ d → ⊥) → k < length xs
  within xs k other = elim (cases_lt k (length xs)) [
    | inl lt ↦ lt
    | inr le ↦ absurd (other (get_or_past xs k d le))
  ]

  -- what holds at each index, and past the end, holds with one more
  pub each-push : (P : ℕ → X → Type 0) (xs : List X) (y : X) → ((i : ℕ) → i ≢ length xs → P i (slice_index_or xs i d)) → P (length xs) y
      → (i : ℕ) → P i (slice_index_or (xs ++ y ∷ []) i d)
  each-push P [] y all here zero = here
  each-push P [] y all here (suc i) = all (suc i) (λ e. omega (arith, e))
  each-push P (x ∷ xs) y all here zero = all 0 (λ e. omega (arith, e))
  each-push P (x ∷ xs) y all here (suc i) = each-push (λ n. P (suc n)) xs y (λ n off. all (suc n) (λ e. off (omega (arith, e)))) here i

  -- with another element at index k, what holds at the other indices need not hold there
  pub each-set : (P : ℕ → X → Type 0) (xs : List X) (k : ℕ) (y : X) → k < length xs → ((i : ℕ) → i ≢ k → P i (slice_index_or xs i d)) → P k y
      → (i : ℕ) → P i (slice_index_or (slice_set xs k y) i d)
  each-set P xs k y lt others here i = elim (cases_eq i k) [
    | inl same ↦ rw (same, get_or-set_same xs k y d lt) here
    | inr other ↦ rw (get_or-set_other xs k i y d other) (others i other)
  ]

  -- what holds at an index holds there afterwards, if the new element has it from the old one
  pub stays-set : (P : X → Type 0) (xs : List X) (k : ℕ) (y : X) (i : ℕ) → (P (slice_index_or xs k d) → P y) → P (slice_index_or xs i d)
      → P (slice_index_or (slice_set xs k y) i d)
  stays-set P [] k y i turn there = there
  stays-set P (x ∷ xs) zero y zero turn there = turn there
  stays-set P (x ∷ xs) zero y (suc i) turn there = there
  stays-set P (x ∷ xs) (suc k) y zero turn there = there
  stays-set P (x ∷ xs) (suc k) y (suc i) turn there = stays-set P xs k y i turn there

  module _ (R : X → X → Type 0) where
    -- what holds of each two indices, one before the other
    pub pairs-push : (xs : List X) (y : X) → ((i j : ℕ) → i < j → R (slice_index_or xs i d) (slice_index_or xs j d))
        → ((i : ℕ) → R (slice_index_or xs i d) y) → ((x : X) → R x d)
        → (i j : ℕ) → i < j → R (slice_index_or (xs ++ y ∷ []) i d) (slice_index_or (xs ++ y ∷ []) j d)
    pairs-push xs y all new past i zero lt = absurd (omega arith)
    pairs-push [] y all new past i (suc j) lt = past (slice_index_or (y ∷ []) i d)
    pairs-push (x ∷ xs) y all new past zero (suc j) lt = each-push (λ n. R x) xs y (λ n off. all 0 (suc n) (omega arith)) (new 0) j
    pairs-push (x ∷ xs) y all new past (suc i) (suc j) lt =
        pairs-push xs y (λ a b h. all (suc a) (suc b) (omega arith)) (λ n. new (suc n)) past i j (omega arith)

    pub pairs-set : (xs : List X) (k : ℕ) (y : X) → ((i j : ℕ) → i < j → R (slice_index_or xs i d) (slice_index_or xs j d))
        → ((x : X) → R x (slice_index_or xs k d) → R x y) → ((x : X) → R (slice_index_or xs k d) x → R y x)
        → (i j : ℕ) → i < j → R (slice_index_or (slice_set xs k y) i d) (slice_index_or (slice_set xs k y) j d)
    pairs-set xs k y all before behind i j lt =
        let x = slice_index_or (slice_set xs k y) i d in
        stays-set (λ z. R x z) xs k y j (before x) (stays-set (λ z. R z (slice_index_or xs j d)) xs k y i (behind (slice_index_or xs j d)) (all i j lt))

  -- an element that doesn't stand at the index that is set stays
  pub Contains-set : (x : X) (xs : List X) (k : ℕ) (y : X) → (slice_index_or xs k d ≡ x → ⊥) → Contains xs x → Contains (slice_set xs k y) x
  Contains-set x xs k y other (j, lt, at) =
      let off : j ≢ k = λ same. other (subst (λ n. slice_index_or xs n d ≡ x) same (get_or_default xs j d x lt ∙ at)) in
      (j, omega (arith, lt, length-set xs k y), get_or-set_other xs k j y x off ∙ at)

-- ---- two lists side by side

-- what holds of the elements at each index, and of those past the ends, where both are pushed to or set
module _ {X Y : Type 0} (P : X → Y → Type 0) (d : X) (e : Y) (xs : List X) (ys : List Y) (x : X) (y : Y) (same : length ys ≡ length xs)
    (all : (i : ℕ) → P (slice_index_or xs i d) (slice_index_or ys i e)) (here : P x y) where
  pub sides-pushed : (i : ℕ) → P (slice_index_or (xs ++ x ∷ []) i d) (slice_index_or (ys ++ y ∷ []) i e)
  sides-pushed =
      each-push d (λ i a. P a (slice_index_or (ys ++ y ∷ []) i e)) xs x
      (λ i. each-push e (λ n b. n ≢ length xs → P (slice_index_or xs n d) b) ys y (λ n off other. all n) (λ other. absurd (other same)) i)
      (rw (get_or_push ys y e (length xs) same) here)

  pub sides-set : (k : ℕ) → k < length xs → (i : ℕ) → P (slice_index_or (slice_set xs k x) i d) (slice_index_or (slice_set ys k y) i e)
  sides-set k lt =
      each-set d (λ i a. P a (slice_index_or (slice_set ys k y) i e)) xs k x lt (λ i other. rw (get_or-set_other ys k i y e other) (all i))
      (rw (get_or-set_same ys k y e (omega (arith, lt, same))) here)
