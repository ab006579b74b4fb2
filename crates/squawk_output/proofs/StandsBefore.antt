-- Which of two indices has its items first in a gathered list.
use Rattle.std.proofs.Common.{◌≡◌, ◌≢◌, ◌∙◌, ◌⊎◌, ℕ, zero, suc, ◌==◌, ◌<◌, ◌||◌, ◌&&◌, Bool, true, false, List, [], ◌∷◌, ◌++◌, sym, refl, ap, arith, if◌then◌else◌, inl, inr}
use Rattle.std.specs.List.{list_any}
use Rattle.std.proofs.Math.Bool.{or-true}
use Rattle.std.proofs.Math.Dec.{ltb}
use Rattle.std.proofs.lemmas.Bool.{cases_lt, le-ltb, lt-ltb, ne_eqb}
use Rattle.std.proofs.lemmas.Bool.Decides.{eqb_tells}
use Rattle.std.proofs.lemmas.List.Folds.{list_any-append}
use Rattle.squawk_output.specs.Draft.{Item}
use Rattle.squawk_output.specs.Edits.{stands_before}
use Rattle.squawk_output.proofs.Gathered.{each, picked}
use Rattle.squawk_output.proofs.Groups.{down, itself, picked-down}

any-down_none : (p : Item → Bool) (f : ℕ → List Item) (n : ℕ) → ((j : ℕ) → j < n → list_any p (f j) ≡ false) → list_any p (down f n) ≡ false
any-down_none p f zero none = refl
any-down_none p f (suc n) none = list_any-append p (f n) (down f n) ∙ rw (none n (omega arith)) (any-down_none p f n (λ j h. none j (omega arith)))

any-down : (p : Item → Bool) (f : ℕ → List Item) (n k : ℕ) → k < n → list_any p (f k) ≡ true → list_any p (down f n) ≡ true
any-down p f zero k lt has = absurd (omega arith)
any-down p f (suc n) k lt has =
    list_any-append p (f n) (down f n)
    ∙ elim (eqb_tells n k) [
      | inl e ↦ rw (e.1, has) refl
      | inr e ↦ let ne = e.1 in rw (any-down p f n k (omega (arith, lt, ne)) has) (or-true (list_any p (f n)))
    ]

ltb-suc : (a b : ℕ) → ltb (suc a) (suc b) ≡ ltb a b
ltb-suc a b =
    elim (cases_lt a b) [ inl lt ↦ rw (lt-ltb a b lt) (lt-ltb (suc a) (suc b) (omega arith)) | inr le ↦ rw (le-ltb a b le) (le-ltb (suc a) (suc b) (omega arith)) ]

module _ (p q : Item → Bool) where
  first_cases : (a b s t r u : Bool) → ((a || s) && (b || t)) ≡ false → ((s && t) ≡ false → r ≡ (if s then true else if t then false else u))
      → (if a then true else if b then false else r) ≡ (if a || s then true else if b || t then false else u)
  first_cases true b s t r u h go = refl
  first_cases false true true t r u h go = absurd (cc)
  first_cases false true false t r u h go = refl
  first_cases false false s t r u h go = go h

  -- items that pass one test at most decide, if they pass one
  decided : (xs ys : List Item) → (list_any p xs && list_any q xs) ≡ false
      → stands_before p q (xs ++ ys) ≡ (if list_any p xs then true else if list_any q xs then false else stands_before p q ys)
  decided [] ys h = refl
  decided (x ∷ xs) ys h = first_cases (p x) (q x) (list_any p xs) (list_any q xs) (stands_before p q (xs ++ ys)) (stands_before p q ys) h (decided xs ys)

  -- the one test holds at index a alone, the other at index b alone
  pub each-first : (items : ℕ → List Item) (n a b : ℕ) → a ≢ b → a < n → b < n → ((i : ℕ) → i ≢ a → list_any p (items i) ≡ false) → ((i : ℕ) → i ≢ b → list_any q (items i) ≡ false)
      → list_any p (items a) ≡ true → list_any q (items b) ≡ true → stands_before p q (each items n) ≡ ltb a b
  each-first items zero a b ne lo hi ps qs has also = absurd (omega arith)
  each-first items (suc n) zero zero ne lo hi ps qs has also = absurd (ne refl)
  each-first items (suc n) zero (suc b) ne lo hi ps qs has also =
      let none = qs 0 (omega arith) in decided (items 0) (each (λ i. items (suc i)) n) (rw (has, none) refl) ∙ rw (has, lt-ltb 0 (suc b) (omega arith)) refl
  each-first items (suc n) (suc a) zero ne lo hi ps qs has also =
      let none = ps 0 (omega arith) in decided (items 0) (each (λ i. items (suc i)) n) (rw none refl) ∙ rw (none, also, le-ltb (suc a) 0 (omega arith)) refl
  each-first items (suc n) (suc a) (suc b) ne lo hi ps qs has also =
      let no = ps 0 (omega arith) in
      let none = qs 0 (omega arith) in
      decided (items 0) (each (λ i. items (suc i)) n) (rw no refl)
      ∙ rw (no, none, ltb-suc a b)
      (each-first (λ i. items (suc i)) n a b (λ e. ne (ap suc e)) (omega arith) (omega arith) (λ i other. ps (suc i) (omega (arith, other))) (λ i other. qs (suc i) (omega (arith, other))) has also)

-- a test that holds at one index alone holds in the group of its owner alone
module _ (own : ℕ → ℕ) (items : ℕ → List Item) (n index : ℕ) (p : Item → Bool) (only : (j : ℕ) → j ≢ index → list_any p (items j) ≡ false) where
  some-if : (b : Bool) (v : List Item) → list_any p v ≡ false → list_any p (if b then v else []) ≡ false
  some-if true v e = e
  some-if false v e = refl

  pub group-none : (i : ℕ) → i ≢ own index → list_any p (picked (λ j. own j == i) items n) ≡ false
  group-none i ne =
      ap (list_any p) (picked-down (λ j. own j == i) items n) ∙ any-down_none p (λ j. if own j == i then items j else []) n (λ j lt. cases j (eqb_tells j index))
    where
      cases : (j : ℕ) → (((j == index) ≡ true) × (j ≡ index)) ⊎ (((j == index) ≡ false) × (j ≢ index)) → list_any p (if own j == i then items j else []) ≡ false
      cases j (inl e) = rw (e.1, ne_eqb (own index) i (λ y. ne (sym y))) refl
      cases j (inr e) = some-if (own j == i) (items j) (only j e.1)

  pub group-some : index < n → list_any p (items index) ≡ true → list_any p (picked (λ j. own j == own index) items n) ≡ true
  group-some lt has =
      ap (list_any p) (picked-down (λ j. own j == own index) items n)
      ∙ any-down p (λ j. if own j == own index then items j else []) n index lt (rw (itself (own index)) has)
