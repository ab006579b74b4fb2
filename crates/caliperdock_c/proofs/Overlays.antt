-- Lists written over others, item by item.
use Rattle.std.proofs.Common.{◌≡◌, ◌∙◌, ℕ, ◌+◌, ◌<◌, inl, inr, List, [], ◌∷◌, ◌++◌, length, length-append, map, min, take, drop, set, get_or, append_assoc, arith, ap, sym}
use Rattle.std.proofs.Math.Seq.{set-append_seam}
use Rattle.std.proofs.lemmas.List.{drop_all, drop_more, take_all, length-take, length-drop, length-map, length-take-le, take_more, take-take}
use Rattle.std.proofs.Math.ListN.{get_or-map}
use Rattle.std.proofs.lemmas.Bool.{cases_lt}
use Rattle.caliperdock_c.specs.Overlays.{over}

pub length-over : {X : Type 0} → (front old : List X) → length (over front old) ≡ length old
length-over front old =
    omega (arith, length-append (take (length old) front) (drop (length front) old), length-take (length old) front, length-drop (length front) old)

-- the next one is written, where there is room for it
pub over_next : {X : Type 0} → (old front : List X) (x : X) (i : ℕ) → i ≡ length front → i < length old → set (over front old) i x ≡ over (front ++ x ∷ []) old
over_next {X} old front x i e lt =
    let n = length old in
    let rest = drop (length front + 1) old in
    let whole : take n front ≡ front = take_all n front (omega arith) in
    let more : drop (length front) old ≡ get_or old (length front) x ∷ rest = drop_more old (length front) x (omega arith) in
    ap (λ k. set (over front old) k x) e
    ∙ (ap (λ xs. set (xs ++ drop (length front) old) (length front) x) whole
    ∙ (ap (λ xs. set (front ++ xs) (length front) x) more
    ∙ (set-append_seam front (get_or old (length front) x) rest x
    ∙ (sym (append_assoc front (x ∷ []) rest)
    ∙ (ap (λ xs. xs ++ rest) (sym (take_all n (front ++ x ∷ []) (omega (arith, length-append front (x ∷ [])))))
    ∙ ap (λ k. take n (front ++ x ∷ []) ++ drop k old) (sym (length-append front (x ∷ []))))))))

-- an item that is put at a place that is there
pub put_there : {X : Type 0} → (old front room : List X) (x : X) (i : ℕ) → i ≡ length front → room ≡ over front old → i < length room
    → set room i x ≡ over (front ++ x ∷ []) old
put_there old front room x i e is lt = ap (λ xs. set xs i x) is ∙ over_next old front x i e (omega (arith, length-over front old, ap length is))

-- item i of those that are to be written
pub over_more : {X : Type 0} → (old items : List X) (x : X) (i : ℕ) → i < length items → i < length old
    → set (over (take i items) old) i (get_or items i x) ≡ over (take (i + 1) items) old
over_more old items x i lt room =
    over_next old (take i items) (get_or items i x) i (omega (arith, length-take-le i items (omega arith))) room
    ∙ ap (λ xs. over xs old) (sym (take_more items i x lt))

-- as many as there is room for are all that are written
pub over_all : {X : Type 0} → (old items : List X) (n : ℕ) → n ≡ min (length old) (length items) → over (take n items) old ≡ over items old
over_all old items n e =
    let room = length old in
    elim (cases_lt (length items) room) [
      | inl lt ↦ ap (λ xs. over xs old) (take_all n items (omega arith))
      | inr le ↦
          let all : n ≡ room = omega arith in
          ap (λ xs. xs ++ drop (length (take n items)) old) (take-take room n items (omega arith))
          ∙ ap (λ xs. take room items ++ xs)
          (drop_all (length (take n items)) old (omega (arith, length-take-le n items (omega arith))) ∙ sym (drop_all (length items) old le))
    ]

-- ---- the same of a list that a function is mapped over

pub over_more_map : {A X : Type 0} (f : A → X) (old : List X) (items : List A) (d : A) (i : ℕ) → i < length items → i < length old
    → set (over (take i (map f items)) old) i (f (get_or items i d)) ≡ over (take (i + 1) (map f items)) old
over_more_map f old items d i lt room =
    let count = length-map items f in
    ap (λ x. set (over (take i (map f items)) old) i x) (sym (get_or-map f items i d))
    ∙ over_more old (map f items) (f d) i (omega arith) room

pub over_all_map : {A X : Type 0} (f : A → X) (old : List X) (items : List A) (n : ℕ) → n ≡ min (length old) (length items)
    → over (take n (map f items)) old ≡ over (map f items) old
over_all_map f old items n e = over_all old (map f items) n (omega (arith, length-map items f))
