-- Lists gathered by owner.
use Rattle.std.proofs.Common.{◌≡◌, ◌≢◌, ◌∙◌, ℕ, zero, suc, ◌==◌, ◌<◌, ◌≤◌, Bool, true, false, List, [], ◌++◌, refl, sym, ap, arith, append_assoc, if◌then◌else◌, inl, inr}
use Rattle.std.proofs.lemmas.Bool.{eq-eqb, ne_eqb}
use Rattle.std.proofs.lemmas.Bool.Decides.{eqb_tells}
use Rattle.std.proofs.lemmas.List.{append-nil}
use Rattle.squawk_output.proofs.Gathered.{each, gathered, picked}
use Rattle.squawk_output.proofs.Peel.{each-same, picked-same}

pub itself : (a : ℕ) → (a == a) ≡ true
itself a = eq-eqb a a refl

module _ {X : Type 0} where
  -- ---- the farthest first

  -- the items of the indices below n, those of the farthest index first
  abbrev pub down : (ℕ → List X) → ℕ → List X
  down f zero = []
  down f (suc n) = f n ++ down f n

  down-first : (f : ℕ → List X) (n : ℕ) → down (λ j. f (suc j)) n ++ f 0 ≡ down f (suc n)
  down-first f zero = sym (append-nil (f 0))
  down-first f (suc n) = append_assoc (f (suc n)) (down (λ j. f (suc j)) n) (f 0) ∙ ap (λ ys. f (suc n) ++ ys) (down-first f n)

  pub picked-down : (p : ℕ → Bool) (items : ℕ → List X) (n : ℕ) → picked p items n ≡ down (λ j. if p j then items j else []) n
  picked-down p items zero = refl
  picked-down p items (suc n) =
      ap (λ ys. ys ++ (if p 0 then items 0 else [])) (picked-down (λ j. p (suc j)) (λ j. items (suc j)) n) ∙ down-first (λ j. if p j then items j else []) n

  pub down-none : (f : ℕ → List X) (n : ℕ) → ((j : ℕ) → j < n → f j ≡ []) → down f n ≡ []
  down-none f zero none = refl
  down-none f (suc n) none = rw (none n (omega arith)) (down-none f n (λ j h. none j (omega arith)))

  pub down-same : (f g : ℕ → List X) (n : ℕ) → ((j : ℕ) → j < n → f j ≡ g j) → down f n ≡ down g n
  down-same f g zero same = refl
  down-same f g (suc n) same = rw (same n (omega arith), down-same f g n (λ j h. same j (omega arith))) refl

  each-last : (f : ℕ → List X) (n : ℕ) → each f (suc n) ≡ each f n ++ f n
  each-last f zero = append-nil (f 0)
  each-last f (suc n) = ap (λ ys. f 0 ++ ys) (each-last (λ i. f (suc i)) n) ∙ sym (append_assoc (f 0) (each (λ i. f (suc i)) n) (f (suc n)))

  if_other : (a b : ℕ) (v : List X) → a ≢ b → (if a == b then v else []) ≡ []
  if_other a b v ne = rw (ne_eqb a b ne) refl

  if_same : (a b : ℕ) (v : List X) → a ≡ b → (if a == b then v else []) ≡ v
  if_same a b v e = rw (e, itself b) refl

  if_empty : (b : Bool) (v : List X) → v ≡ [] → (if b then v else []) ≡ []
  if_empty true v e = e
  if_empty false v e = refl

  pub gathered-same : (own own' : ℕ → ℕ) (items items' : ℕ → List X) (n : ℕ) → ((j : ℕ) → j < n → own j ≡ own' j) → ((j : ℕ) → j < n → items j ≡ items' j)
      → gathered own items n ≡ gathered own' items' n
  gathered-same own own' items items' n owns same =
      each-same (λ i. picked (λ j. own j == i) items n) (λ i. picked (λ j. own' j == i) items' n) n
      (λ i h. picked-same (λ j. own j == i) (λ j. own' j == i) items items' n (λ j k. rw (owns j k, same j k) refl))

  -- ---- one index more, which owns itself

  module _ (own own' : ℕ → ℕ) (items items' : ℕ → List X) (n : ℕ) (owns : (j : ℕ) → j < n → own' j ≡ own j) (same : (j : ℕ) → j < n → items' j ≡ items j)
      (within : (j : ℕ) → j < n → own j < n) (itself_last : own' n ≡ n) where
    group : (i : ℕ) → picked (λ j. own' j == i) items' (suc n) ≡ (if own' n == i then items' n else []) ++ picked (λ j. own' j == i) items' n
    group i =
        picked-down (λ j. own' j == i) items' (suc n)
        ∙ ap (λ ys. (if own' n == i then items' n else []) ++ ys) (sym (picked-down (λ j. own' j == i) items' n))

    group_below : (i : ℕ) → i < n → picked (λ j. own' j == i) items' (suc n) ≡ picked (λ j. own j == i) items n
    group_below i lt =
        group i
        ∙ (ap (λ ys. ys ++ picked (λ j. own' j == i) items' n) (if_other (own' n) i (items' n) (λ e. absurd (omega (arith, e, itself_last))))
        ∙ picked-same (λ j. own' j == i) (λ j. own j == i) items' items n (λ j k. rw (owns j k, same j k) refl))

    no_other : picked (λ j. own' j == n) items' n ≡ []
    no_other =
        picked-down (λ j. own' j == n) items' n
        ∙ down-none (λ j. if own' j == n then items' j else []) n
        (λ j k. if_other (own' j) n (items' j) (λ e. absurd (omega (arith, e, within j k, owns j k))))

    group_last : picked (λ j. own' j == n) items' (suc n) ≡ items' n
    group_last =
        group n
        ∙ (ap (λ ys. ys ++ picked (λ j. own' j == n) items' n) (if_same (own' n) n (items' n) itself_last)
        ∙ (ap (λ ys. items' n ++ ys) no_other ∙ append-nil (items' n)))

    pub gathered-push : gathered own' items' (suc n) ≡ gathered own items n ++ items' n
    gathered-push =
        each-last (λ i. picked (λ j. own' j == i) items' (suc n)) n
        ∙ (ap (λ ys. ys ++ picked (λ j. own' j == n) items' (suc n))
        (each-same (λ i. picked (λ j. own' j == i) items' (suc n)) (λ i. picked (λ j. own j == i) items n) n group_below)
        ∙ ap (λ ys. gathered own items n ++ ys) group_last)

  -- ---- an index that joins another's group

  module _ (f g : ℕ → List X) (m c : ℕ) (before : (j : ℕ) → j < m → g j ≡ f j) (at : g m ≡ f c ++ f m) where
    down-to : (n : ℕ) → m < n → n ≤ c → ((j : ℕ) → m < j → j < c → f j ≡ []) → ((j : ℕ) → m < j → j < c → g j ≡ []) → down g n ≡ f c ++ down f n
    down-to zero lo hi fs gs = absurd (omega arith)
    down-to (suc n) lo hi fs gs =
        elim (eqb_tells n m) [
          | inl e ↦ rw (e.1, at) (append_assoc (f c) (f m) (down g m) ∙ ap (λ ys. f c ++ (f m ++ ys)) (down-same g f m before))
          | inr e ↦ let ne = e.1 in let lo' : m < n = omega (arith, lo, ne) in rw (fs n lo' (omega arith), gs n lo' (omega arith)) (down-to n lo' (omega arith) fs gs)
        ]

    down-past : (n : ℕ) → m < c → c < n → ((j : ℕ) → m < j → j < n → j ≢ c → f j ≡ []) → ((j : ℕ) → m < j → j < n → g j ≡ []) → down g n ≡ down f n
    down-past zero lo hi fs gs = absurd (omega arith)
    down-past (suc n) lo hi fs gs =
        elim (eqb_tells n c) [
          | inl e ↦ rw (gs n (omega (arith, e.1)) (omega arith))
              (rw e.1 (down-to c lo (omega arith) (λ j h k. fs j h (omega (arith, e.1)) (λ x. absurd (omega (arith, x)))) (λ j h k. gs j h (omega (arith, e.1)))))
          | inr e ↦ let ne = e.1 in rw (fs n (omega (arith, ne)) (omega arith) ne, gs n (omega (arith, ne)) (omega arith))
              (down-past n lo (omega (arith, ne)) (λ j h k. fs j h (omega arith)) (λ j h k. gs j h (omega arith)))
        ]

  -- c comes to the owner of m, and m is the farthest that this owner had: the items of c then stand directly before
  -- those of m
  module _ (own own' : ℕ → ℕ) (items items' : ℕ → List X) (m c n : ℕ) (lo : m < c) (hi : c < n) (moves : own' c ≡ own m)
      (stays : (j : ℕ) → j ≢ c → own' j ≡ own j) (farthest : (j : ℕ) → m < j → j < n → own j ≢ own m) (at : items' m ≡ items c ++ items m)
      (gone : items' c ≡ []) (rest : (j : ℕ) → j < n → j ≢ c → j ≢ m → items' j ≡ items j) where
    m_stays : own' m ≡ own m
    m_stays = stays m (λ e. absurd (omega (arith, e, lo)))

    abbrev new : ℕ → ℕ → List X
    new i j = if own' j == i then items j else []

    abbrev old : ℕ → ℕ → List X
    old i j = if own j == i then items' j else []

    other_group : (i j : ℕ) → j < n → own m ≢ i → new i j ≡ old i j
    other_group i j h ne =
        elim (eqb_tells j c) [
          | inl e ↦ rw e.1 (if_other (own' c) i (items c) (λ y. ne (sym moves ∙ y)) ∙ sym (if_empty (own c == i) (items' c) gone))
          | inr e ↦ elim (eqb_tells j m) [
            | inl k ↦ rw k.1 (if_other (own' m) i (items m) (λ y. ne (sym m_stays ∙ y)) ∙ sym (if_other (own m) i (items' m) ne))
            | inr k ↦ rw (stays j e.1, rest j h e.1 k.1) refl
          ]
        ]

    its_group : (i : ℕ) → own m ≡ i → down (new i) n ≡ down (old i) n
    its_group i e =
        sym (down-past (new i) (old i) m c
        (λ j h. let nc : j ≢ c = omega (arith, lo, h) in let nm : j ≢ m = omega (arith, h) in rw (stays j nc, rest j (omega (arith, h, lo, hi)) nc nm) refl)
        (if_same (own m) i (items' m) e
        ∙ (at
        ∙ (ap (λ ys. ys ++ items m) (sym (if_same (own' c) i (items c) (moves ∙ e)))
        ∙ ap (λ ys. new i c ++ ys) (sym (if_same (own' m) i (items m) (m_stays ∙ e))))))
        n lo hi
        (λ j h k ne. if_other (own' j) i (items j) (λ y. farthest j h k (sym (stays j ne) ∙ (y ∙ sym e))))
        (λ j h k. if_other (own j) i (items' j) (λ y. farthest j h k (y ∙ sym e))))

    group_moved : (i : ℕ) → down (new i) n ≡ down (old i) n
    group_moved i =
        elim (eqb_tells (own m) i) [ inl e ↦ its_group i e.1 | inr e ↦ down-same (new i) (old i) n (λ j h. other_group i j h e.1) ]

    pub gathered-moved : gathered own' items n ≡ gathered own items' n
    gathered-moved =
        each-same (λ i. picked (λ j. own' j == i) items n) (λ i. picked (λ j. own j == i) items' n) n
        (λ i h. picked-down (λ j. own' j == i) items n ∙ (group_moved i ∙ sym (picked-down (λ j. own j == i) items' n)))
