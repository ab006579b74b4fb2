-- The list of a log begins with what the chain from its first index finds there. What follows is the list of the log
-- behind that index, with the chain taken out.
use Rattle.std.proofs.Common.{◌≡◌, ◌∙◌, ℕ, zero, suc, ◌==◌, ◌<◌, Bool, true, false, Some, None, Option, List, [], ◌∷◌, ◌++◌, length, refl, sym, ap, arith, if◌then◌else◌}
use Rattle.std.proofs.Math.Dec.{eqb-suc-suc, eqb-suc-zero, eqb-zero-suc}
use Rattle.std.proofs.lemmas.List.{append-nil}
use Rattle.squawk_output.specs.Steps.{Step}
use Rattle.squawk_output.specs.declared.event.Event.{Event}
use Rattle.squawk_output.specs.EventLog.{Log, linked_index, list_of, reaches, steps_of_event}
use Rattle.squawk_output.specs.Chain.{erased}
use Rattle.squawk_output.proofs.Erased.{comes, length-erased, reaches-erased, steps-erased}
use Rattle.squawk_output.proofs.Gathered.{each, gathered, least, least_owner, list_of-gathered, picked, steps_at}

pub least-same : (p q : ℕ → Bool) (n : ℕ) → ((i : ℕ) → p i ≡ q i) → least p n ≡ least q n
least-same p q zero same = refl
least-same p q (suc n) same = rw (same 0, least-same (λ i. p (suc i)) (λ i. q (suc i)) n (λ i. same (suc i))) refl

module _ {X : Type 0} where
  pub picked-same : (p q : ℕ → Bool) (f g : ℕ → List X) (n : ℕ) → ((j : ℕ) → j < n → (if p j then f j else []) ≡ (if q j then g j else []))
      → picked p f n ≡ picked q g n
  picked-same p q f g zero same = refl
  picked-same p q f g (suc n) same =
      ap (λ ys. ys ++ (if p 0 then f 0 else []))
      (picked-same (λ j. p (suc j)) (λ j. q (suc j)) (λ j. f (suc j)) (λ j. g (suc j)) n (λ j h. same (suc j) (omega arith)))
      ∙ ap (λ ys. picked (λ j. q (suc j)) (λ j. g (suc j)) n ++ ys) (same 0 (omega arith))

  pub each-same : (f g : ℕ → List X) (n : ℕ) → ((i : ℕ) → i < n → f i ≡ g i) → each f n ≡ each g n
  each-same f g zero same = refl
  each-same f g (suc n) same =
      ap (λ ys. ys ++ each (λ i. f (suc i)) n) (same 0 (omega arith))
      ∙ ap (λ ys. g 0 ++ ys) (each-same (λ i. f (suc i)) (λ i. g (suc i)) n (λ i h. same (suc i) (omega arith)))

  either_same : (b : Bool) (v : List X) → (if b then v else v) ≡ v
  either_same true v = refl
  either_same false v = refl

  first_case : (b : Bool) (m : ℕ) (v : List X) → (if (if b then 0 else suc m) == 0 then v else []) ≡ (if b then v else [])
  first_case true m v = refl
  first_case false m v = rw eqb-suc-zero refl

  second_case : (b : Bool) (m m' i : ℕ) (v v' : List X) → (b ≡ false → m' ≡ m) → v' ≡ (if b then [] else v)
      → (if (if b then 0 else suc m) == suc i then v else []) ≡ (if m' == i then v' else [])
  second_case true m m' i v v' same e = rw (eqb-zero-suc i, e) (sym (either_same (m' == i) []))
  second_case false m m' i v v' same e = rw (eqb-suc-suc m i, same refl) (ap (λ u. if m == i then u else []) (sym e))

  -- where the first index owns itself and those that the chain comes to, and all others keep their owners
  module _ (own o o' : ℕ → ℕ) (a : ℕ → Bool) (items items' : ℕ → List X) (n : ℕ) (zeroth : own 0 ≡ 0)
      (next : (j : ℕ) → own (suc j) ≡ (if a j then 0 else suc (o j))) (same : (j : ℕ) → a j ≡ false → o' j ≡ o j)
      (left : (j : ℕ) → items' j ≡ (if a j then [] else items (suc j))) where
    front : picked (λ j. own (suc j) == 0) (λ j. items (suc j)) n ≡ picked a (λ j. items (suc j)) n
    front =
        picked-same (λ j. own (suc j) == 0) a (λ j. items (suc j)) (λ j. items (suc j)) n
        (λ j h. ap (λ m. if m == 0 then items (suc j) else []) (next j) ∙ first_case (a j) (o j) (items (suc j)))

    here : (if own 0 == 0 then items 0 else []) ≡ items 0
    here = rw zeroth refl

    behind : (i : ℕ) → picked (λ j. own j == suc i) items (suc n) ≡ picked (λ j. o' j == i) items' n
    behind i =
        let group = picked (λ j. own (suc j) == suc i) (λ j. items (suc j)) n in
        ap (λ m. group ++ (if m == suc i then items 0 else [])) zeroth
        ∙ (ap (λ b. group ++ (if b then items 0 else [])) (eqb-zero-suc i)
        ∙ (append-nil group
        ∙ picked-same (λ j. own (suc j) == suc i) (λ j. o' j == i) (λ j. items (suc j)) items' n
        (λ j h. ap (λ m. if m == suc i then items (suc j) else []) (next j) ∙ second_case (a j) (o j) (o' j) i (items (suc j)) (items' j) (same j) (left j))))

    pub peel : gathered own items (suc n) ≡ (picked a (λ j. items (suc j)) n ++ items 0) ++ gathered o' items' n
    peel =
        ap (λ ys. ys ++ each (λ i. picked (λ j. own j == suc i) items (suc n)) n)
        (ap (λ ys. ys ++ (if own 0 == 0 then items 0 else [])) front ∙ ap (λ ys. picked a (λ j. items (suc j)) n ++ ys) here)
        ∙ ap (λ ys. (picked a (λ j. items (suc j)) n ++ items 0) ++ ys)
        (each-same (λ i. picked (λ j. own j == suc i) items (suc n)) (λ i. picked (λ j. o' j == i) items' n) n (λ i h. behind i))

-- what the chain from an index enters, the farthest first
abbrev pub entered : Option ℕ → Log → List Step
entered from [] = []
entered None (x ∷ xs) = []
entered (Some zero) (x ∷ xs) = entered (linked_index x) xs ++ steps_of_event x
entered (Some (suc n)) (x ∷ xs) = entered (Some n) xs

none_picked : (xs : Log) → picked (λ j. false) (steps_at xs) (length xs) ≡ []
none_picked [] = refl
none_picked (x ∷ xs) = rw (none_picked xs) refl

picked_entered : (from : Option ℕ) (log : Log) → picked (comes from log) (steps_at log) (length log) ≡ entered from log
picked_entered None [] = refl
picked_entered (Some n) [] = refl
picked_entered None (x ∷ xs) = none_picked (x ∷ xs)
picked_entered (Some zero) (x ∷ xs) = ap (λ ys. ys ++ steps_of_event x) (picked_entered (linked_index x) xs)
picked_entered (Some (suc n)) (x ∷ xs) = append-nil (picked (comes (Some n) xs) (steps_at xs) (length xs)) ∙ picked_entered (Some n) xs

pub list_of-cons : (x : Event) (xs : Log) → list_of (x ∷ xs) ≡ (entered (linked_index x) xs ++ steps_of_event x) ++ list_of (erased (linked_index x) xs)
list_of-cons x xs =
    let left = erased (linked_index x) xs in
    list_of-gathered (x ∷ xs)
    ∙ (peel (least_owner (x ∷ xs)) (least_owner xs) (least_owner left) (comes (linked_index x) xs) (steps_at (x ∷ xs)) (steps_at left) (length xs) refl (λ j. refl)
    (λ j away. least-same (λ i. reaches left i j) (λ i. reaches xs i j) j (reaches-erased (linked_index x) xs j away))
    (steps-erased (linked_index x) xs)
    ∙ (ap (λ ys. (ys ++ steps_of_event x) ++ gathered (least_owner left) (steps_at left) (length xs)) (picked_entered (linked_index x) xs)
    ∙ (ap (λ n. (entered (linked_index x) xs ++ steps_of_event x) ++ gathered (least_owner left) (steps_at left) n) (sym (length-erased (linked_index x) xs))
    ∙ ap (λ ys. (entered (linked_index x) xs ++ steps_of_event x) ++ ys) (sym (list_of-gathered left)))))
