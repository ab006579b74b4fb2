-- The list of a log as proofs take it apart: by functions of an index, where the definitions have words for lists.
use Rattle.std.proofs.Common.{◌≡◌, ◌∙◌, ℕ, zero, suc, ◌+◌, ◌==◌, ◌<◌, Bool, true, false, not, cond, List, [], ◌∷◌, ◌++◌, length, get_or, refl, sym, ap, arith, if◌then◌else◌}
use Rattle.std.specs.Prelude.{filter, reverse}
use Rattle.std.specs.List.{enumerate_from, flat_map, position_or_len, range_with_len}
use Rattle.std.proofs.lemmas.Grind.{flat_map-append, reverse_onto}
use Rattle.std.proofs.lemmas.List.{append-nil}
use Rattle.squawk_output.specs.Steps.{Step}
use Rattle.squawk_output.specs.declared.event.Event.{Event}
use Rattle.squawk_output.specs.declared.event.Event.TheVariants.{Finish}
use Rattle.squawk_output.specs.EventLog.{Log, in_list_order, list_of, owned, owner, indices, reaches, steps_of_event}

-- the least number below n that passes a test, or n
abbrev pub least : (ℕ → Bool) → ℕ → ℕ
least p zero = zero
least p (suc n) = if p 0 then 0 else suc (least (λ i. p (suc i)) n)

-- the owner of an index, and the index itself where that is past the log
abbrev pub least_owner : Log → ℕ → ℕ
least_owner log j = least (λ i. reaches log i j) j

-- the items of the indices below n that pass a test, those of the farthest index first
abbrev pub picked : {X : Type 0} → (ℕ → Bool) → (ℕ → List X) → ℕ → List X
picked p items zero = []
picked p items (suc n) = picked (λ j. p (suc j)) (λ j. items (suc j)) n ++ (if p 0 then items 0 else [])

-- the items of the indices below n, one index after another
abbrev pub each : {X : Type 0} → (ℕ → List X) → ℕ → List X
each items zero = []
each items (suc n) = items 0 ++ each (λ i. items (suc i)) n

-- for each index in order, the items of the indices that it owns, those of the farthest first
abbrev pub gathered : {X : Type 0} → (ℕ → ℕ) → (ℕ → List X) → ℕ → List X
gathered owner_of items n = each (λ i. picked (λ j. owner_of j == i) items n) n

-- the steps of the event at an index
abbrev pub steps_at : Log → ℕ → List Step
steps_at [] j = []
steps_at (event ∷ log) zero = steps_of_event event
steps_at (event ∷ log) (suc j) = steps_at log j

-- ---- owners

pub reaches-itself : (log : Log) (i : ℕ) → i < length log → reaches log i i ≡ true
reaches-itself [] i lt = absurd (omega arith)
reaches-itself (x ∷ xs) zero lt = refl
reaches-itself (x ∷ xs) (suc i) lt = reaches-itself xs i (omega arith)

first_or_later : (b : Bool) (k : ℕ) → cond (not b) (1 + k) 0 ≡ (if b then 0 else suc k)
first_or_later true k = refl
first_or_later false k = omega arith

position-least : (p q : ℕ → Bool) (a n j : ℕ) → ((i b : ℕ) → b ≡ a + i → p b ≡ q i) → j < n → q j ≡ true
    → position_or_len p (range_with_len a n) ≡ least q j
position-least p q a zero j same lt here = absurd (omega arith)
position-least p q a (suc n) zero same lt here =
    ap (λ b. cond (not b) (1 + position_or_len p (range_with_len (a + 1) n)) 0) (same 0 a (omega arith) ∙ here)
position-least p q a (suc n) (suc j) same lt here =
    ap (λ b. cond (not b) (1 + position_or_len p (range_with_len (a + 1) n)) 0) (same 0 a (omega arith))
    ∙ (first_or_later (q 0) (position_or_len p (range_with_len (a + 1) n))
    ∙ ap (λ k. if q 0 then 0 else suc k)
    (position-least p (λ i. q (suc i)) (a + 1) n j (λ i b e. same (suc i) b (omega (arith, e))) (omega arith) here))

-- on the indices of the log it is the owner
pub owner-least : (log : Log) (j : ℕ) → j < length log → owner log j ≡ least_owner log j
owner-least log j lt =
    position-least (λ i. reaches log i j) (λ i. reaches log i j) 0 (length log) j
    (λ i b e. let index : b ≡ i = omega (arith, e) in ap (λ k. reaches log k j) index) lt (reaches-itself log j lt)

-- ---- lists

module _ {X Y : Type 0} (f : ℕ × Y → List X) where
  flat_map-last : (b : Bool) (x : ℕ × Y) (xs : List (ℕ × Y)) → flat_map f (reverse (cond b (x ∷ xs) xs)) ≡ flat_map f (reverse xs) ++ (if b then f x else [])
  flat_map-last true x xs =
      ap (flat_map f) (reverse_onto xs x [])
      ∙ (flat_map-append f (reverse xs) (x ∷ []) ∙ ap (λ ys. flat_map f (reverse xs) ++ ys) (append-nil (f x)))
  flat_map-last false x xs = sym (append-nil (flat_map f (reverse xs)))

  flat_map-picked : (p : ℕ × Y → Bool) (q : ℕ → Bool) (items : ℕ → List X) (a : ℕ) (ys : List Y) (d : Y)
      → ((j b : ℕ) → j < length ys → b ≡ a + j → p (b, get_or ys j d) ≡ q j) → ((j b : ℕ) → j < length ys → b ≡ a + j → f (b, get_or ys j d) ≡ items j)
      → flat_map f (reverse (filter p (enumerate_from a ys))) ≡ picked q items (length ys)
  flat_map-picked p q items a [] d passes gives = refl
  flat_map-picked p q items a (y ∷ ys) d passes gives =
      let rest = filter p (enumerate_from (a + 1) ys) in
      flat_map-last (p (a, y)) (a, y) rest
      ∙ (ap (λ b. flat_map f (reverse rest) ++ (if b then f (a, y) else [])) (passes 0 a (omega arith) (omega arith))
      ∙ (ap (λ v. flat_map f (reverse rest) ++ (if q 0 then v else [])) (gives 0 a (omega arith) (omega arith))
      ∙ ap (λ v. v ++ (if q 0 then items 0 else []))
      (flat_map-picked p (λ j. q (suc j)) (λ j. items (suc j)) (a + 1) ys d
      (λ j b lt e. passes (suc j) b (omega (arith, lt)) (omega (arith, e)))
      (λ j b lt e. gives (suc j) b (omega (arith, lt)) (omega (arith, e))))))

module _ {X Y Z : Type 0} (f : Y → List X) (g : Z → List Y) where
  pub flat_map-twice : (zs : List Z) → flat_map f (flat_map g zs) ≡ flat_map (λ z. flat_map f (g z)) zs
  flat_map-twice [] = refl
  flat_map-twice (z ∷ zs) = flat_map-append f (g z) (flat_map g zs) ∙ ap (λ ys. flat_map f (g z) ++ ys) (flat_map-twice zs)

module _ {X : Type 0} where
  flat_map-each : (f items : ℕ → List X) (a n : ℕ) → ((i b : ℕ) → b ≡ a + i → f b ≡ items i) → flat_map f (range_with_len a n) ≡ each items n
  flat_map-each f items a zero same = refl
  flat_map-each f items a (suc n) same =
      ap (λ ys. ys ++ flat_map f (range_with_len (a + 1) n)) (same 0 a (omega arith))
      ∙ ap (λ ys. items 0 ++ ys) (flat_map-each f (λ i. items (suc i)) (a + 1) n (λ i b e. same (suc i) b (omega (arith, e))))

  -- what the events have in the order of the list is gathered by their owners
  pub in_list_order-gathered : (f : ℕ × Event → List X) (items : ℕ → List X) (log : Log) (d : Event) → ((j : ℕ) → j < length log → f (j, get_or log j d) ≡ items j)
      → flat_map f (in_list_order log) ≡ gathered (least_owner log) items (length log)
  in_list_order-gathered f items log d gives =
      flat_map-twice f (owned log) (indices log)
      ∙ flat_map-each (λ i. flat_map f (owned log i)) (λ i. picked (λ j. least_owner log j == i) items (length log)) 0 (length log)
      (λ i b e. flat_map-picked f (λ (index, event). owner log index == b) (λ j. least_owner log j == i) items 0 log d
      (λ j c lt here. let index : c ≡ j = omega (arith, here) in let first : b ≡ i = omega (arith, e) in rw (index, first, owner-least log j lt) refl)
      (λ j c lt here. let index : c ≡ j = omega (arith, here) in rw index (gives j lt)))

pub steps-here : (log : Log) (index : ℕ) (d : Event) → index < length log → steps_of_event (get_or log index d) ≡ steps_at log index
steps-here [] index d lt = absurd (omega arith)
steps-here (x ∷ xs) zero d lt = refl
steps-here (x ∷ xs) (suc n) d lt = steps-here xs n d (omega arith)

-- both are the same list
pub list_of-gathered : (log : Log) → list_of log ≡ gathered (least_owner log) (steps_at log) (length log)
list_of-gathered log = in_list_order-gathered (λ (index, event). steps_of_event event) (steps_at log) log Finish (λ j lt. steps-here log j Finish lt)
