-- The marks of a walk.
use Rattle.std.proofs.Common.{◌≡◌, ℕ, zero, suc, ◌+◌, ◌-◌, ◌<◌, ◌≤◌, ◌==◌, cond, true, false, inl, inr, List, [], ◌∷◌, ◌++◌, length, Some, take, replicate, slice_get, get_or, set, arith, refl, sym, subst, ap, ◌∙◌, length-append, length-set, get_or-set_other}
use Rattle.std.specs.List.{count_by, sum_by}
use Rattle.std.proofs.lemmas.Bool.{cases_eq, cases_lt, eq-eqb, ne_eqb}
use Rattle.std.proofs.lemmas.List.{get_or-append_right, get_or_append_left}
use Rattle.std.proofs.lemmas.List.Sums.{sum_by-cons, sum_by-set}
use Rattle.std.proofs.lemmas.Option.{slice_get_within}
use Rattle.rule_tables.specs.Places.{IsOneOf, Plan}
use Rattle.rule_tables.specs.Walks.{Goes, HasReached, IsWalking, Reaches, slot, slots}
use Rattle.rule_tables.specs.declared.place.Place.{Place}
use Rattle.rule_tables.specs.declared.walk.Walk.{Walk}
use Rattle.rule_tables.proofs.Lists.{slice_get-front, slice_get-seam}
use Rattle.rule_tables.proofs.Walking.{reaches_none, slot-same}

taken : (marks : List ℕ) (number len : ℕ) → ((i : ℕ) → get_or marks i 0 ≤ number) → (i : ℕ) → get_or (take len marks) i 0 ≤ number
taken marks number zero below i = omega arith
taken [] number (suc len) below i = omega arith
taken (mark ∷ marks) number (suc len) below zero = below 0
taken (mark ∷ marks) number (suc len) below (suc i) = taken marks number len (λ k. below (suc k)) i

none : (more i number : ℕ) → get_or (replicate more 0) i 0 ≤ number
none zero i number = omega arith
none (suc more) zero number = omega arith
none (suc more) (suc i) number = none more i number

-- marks that are cut, or filled up with none, aren't greater
pub below_resized : (marks : List ℕ) (number len more : ℕ) → ((i : ℕ) → get_or marks i 0 ≤ number) → (i : ℕ) → get_or (take len marks ++ replicate more 0) i 0 ≤ number
below_resized marks number len more below i =
    elim (cases_lt i (length (take len marks))) [
      | inl front ↦ rw (get_or_append_left (take len marks) (replicate more 0) 0 i front) (taken marks number len below i)
      | inr after ↦ rw (get_or-append_right (take len marks) (replicate more 0) (length (take len marks)) i 0 refl after) (none more (i - length (take len marks)) number)
    ]

-- none of them has the next number
pub count_none : (marks : List ℕ) (number : ℕ) → ((i : ℕ) → get_or marks i 0 ≤ number) → count_by (λ mark. mark == number + 1) marks ≡ 0
count_none [] number below = refl
count_none (mark ∷ marks) number below =
    let here : mark ≤ number = below 0 in
    let other : (mark == number + 1) ≡ false = ne_eqb mark (number + 1) (λ e. omega arith) in
    let rest : count_by (λ mark. mark == number + 1) marks ≡ 0 = count_none marks number (λ i. below (suc i)) in
    sum_by-cons (λ x. cond (x == number + 1) 1 0) mark marks ∙ rw (other, rest) refl

-- one more has it
pub count_more : (marks : List ℕ) (number i : ℕ) → i < length marks → (get_or marks i 0 ≡ number → ⊥) → count_by (λ mark. mark == number) (set marks i number) ≡ count_by (λ mark. mark == number) marks + 1
count_more marks number i lt other =
    let off : (get_or marks i 0 == number) ≡ false = ne_eqb (get_or marks i 0) number other in
    let on : (number == number) ≡ true = eq-eqb number number refl in
    let both : sum_by (λ x. cond (x == number) 1 0) (set marks i number) + cond (get_or marks i 0 == number) 1 0 ≡ sum_by (λ x. cond (x == number) 1 0) marks + cond (number == number) 1 0 = sum_by-set (λ x. cond (x == number) 1 0) marks i number 0 lt in
    let plain : sum_by (λ x. cond (x == number) 1 0) (set marks i number) + 0 ≡ sum_by (λ x. cond (x == number) 1 0) marks + 1 = rw (off, on) at both in
    omega arith

-- a place is reached that has no mark
module _ (old new : Walk) (p : Place) (number : new.number ≡ old.number) where
  noted_more : new.marks.items ≡ set old.marks.items (slot p) old.number → new.reached.items ≡ old.reached.items ++ p ∷ []
      → IsWalking old → (q : Place) → get_or new.marks.items (slot q) 0 ≡ new.number → IsOneOf new.reached.items q
  noted_more marks reached walks q noted =
      elim (cases_eq (slot q) (slot p)) [
        | inl same ↦
            record {
              index = length old.reached.items;
              is = rw reached (slice_get-seam old.reached.items p) ∙ ap Some (sym (slot-same q p same));
            }
        | inr other ↦
            let before : get_or old.marks.items (slot q) 0 ≡ old.number =
            sym (get_or-set_other old.marks.items (slot p) (slot q) old.number 0 other) ∙ subst (λ (xs : List ℕ). get_or xs (slot q) 0 ≡ new.number) marks noted ∙ number in
            let one : IsOneOf old.reached.items q = walks.noted q before in
            record {
              index = one.index;
              is = rw reached (slice_get-front old.reached.items (p ∷ []) one.index (slice_get_within old.reached.items one.index q one.is) ∙ one.is);
            }
      ]

  reaches_one : new.reached.items ≡ old.reached.items ++ p ∷ [] → Reaches (length old.marks.items) old.reached.items new.reached.items (λ q. q ≡ p)
  reaches_one reached = record {
    longer = rw (reached, length-append old.reached.items (p ∷ [])) (omega arith);
    same = λ i less. rw reached (slice_get-front old.reached.items (p ∷ []) i less);
    only = λ i q e.
        elim (cases_eq i (length old.reached.items)) [
          | inl same ↦
              let here : Some p ≡ Some q = sym (slice_get-seam old.reached.items p) ∙ subst (λ (k : ℕ). slice_get (old.reached.items ++ p ∷ []) k ≡ Some q) same (rw reached at e) in
              inr (let is : q ≡ p = cc in is)
          | inr other ↦
              let within : i < length (old.reached.items ++ p ∷ []) = slice_get_within (old.reached.items ++ p ∷ []) i q (rw reached at e) in
              inl (omega (arith, length-append old.reached.items (p ∷ [])))
        ];
    all = λ q is less. record { index = length old.reached.items; is = rw reached (slice_get-seam old.reached.items p) ∙ ap Some (sym is) };
  }

  pub goes_new : new.marks.items ≡ set old.marks.items (slot p) old.number → new.reached.items ≡ old.reached.items ++ p ∷ [] → slot p < length old.marks.items
      → (get_or old.marks.items (slot p) 0 ≡ old.number → ⊥) → Goes old new (λ q. q ≡ p)
  goes_new marks reached lt unmarked = record {
    len = ap length marks ∙ length-set old.marks.items (slot p) old.number;
    walks = λ w. record {
      begun = omega (arith, w.begun, number);
      noted = noted_more marks reached w;
      count = rw (marks, number, reached) (count_more old.marks.items old.number (slot p) lt unmarked ∙ ap (λ (k : ℕ). k + 1) w.count ∙ sym (length-append old.reached.items (p ∷ [])));
    };
    reaches = λ w. reaches_one reached;
  }

-- or that has one, or is no place of the rows
pub goes_old : (walk : Walk) (p : Place) → (slot p < length walk.marks.items → get_or walk.marks.items (slot p) 0 ≡ walk.number) → Goes walk walk (λ q. q ≡ p)
goes_old walk p marked = record {
  len = refl;
  walks = λ w. w;
  reaches = λ w. record {
    longer = omega arith;
    same = λ i less. refl;
    only = λ i q e. inl (slice_get_within walk.reached.items i q e);
    all = λ q is less. rw is (w.noted p (marked (rw is at less)));
  };
}

-- a walk with the next number begins
pub begun : (plan : Plan) (walk : Walk) (marks : List ℕ) (number len more : ℕ) → walk.number ≡ number + 1 → walk.marks.items ≡ take len marks ++ replicate more 0 → length walk.marks.items ≡ slots (length plan.rows) → walk.reached.items ≡ []
    → ((i : ℕ) → get_or marks i 0 ≤ number) → HasReached plan walk (λ q. ⊥)
begun plan walk marks number len more next items is none below =
    let under : (i : ℕ) → get_or walk.marks.items i 0 ≤ number = λ i. rw items (below_resized marks number len more below i) in
    record {
      walks = record {
        begun = omega arith;
        noted = λ p noted. let before : get_or walk.marks.items (slot p) 0 ≤ number = under (slot p) in absurd (omega arith);
        count = rw (next, none) (count_none walk.marks.items number under);
      };
      len = is;
      reaches = rw none (reaches_none (slots (length plan.rows)) []);
    }
