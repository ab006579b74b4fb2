-- A map of rows, one row after another.
use Rattle.std.proofs.Common.{◌≡◌, ℕ, zero, suc, ◌+◌, ◌<◌, true, false, inl, inr, List, [], ◌∷◌, ◌++◌, length, Option, Some, None, slice_get, set, add-one, arith, refl, sym, subst, ap, length-append, length-set, eq-eqb, ◌∙◌}
use Rattle.std.proofs.lemmas.Bool.{cases_eq, eqb-true, ne_eqb}
use Rattle.rule_grammar.specs.declared.part.Part.{Part}
use Rattle.rule_tables.specs.Places.{goal_of, last_below}
use Rattle.rule_tables.specs.Maps.{AreLinked, at_goal, is_number, known_at, leads_to, with_goal}
use Rattle.rule_tables.proofs.Below.{last_no, last_yes}
use Rattle.rule_tables.proofs.Lists.{slice_get-front, slice_get-seam}

pub slice_get-set_same : {X : Type 0} (xs : List X) (i : ℕ) (x : X) → i < length xs → slice_get (set xs i x) i ≡ Some x
slice_get-set_same [] i x lt = absurd (omega (arith, lt))
slice_get-set_same (y ∷ xs) zero x lt = refl
slice_get-set_same (y ∷ xs) (suc i) x lt = slice_get-set_same xs i x (omega (arith, lt))

pub slice_get-set_other : {X : Type 0} (xs : List X) (i j : ℕ) (x : X) → (j ≡ i → ⊥) → slice_get (set xs i x) j ≡ slice_get xs j
slice_get-set_other [] i j x other = refl
slice_get-set_other (y ∷ xs) zero zero x other = absurd (other refl)
slice_get-set_other (y ∷ xs) zero (suc j) x other = refl
slice_get-set_other (y ∷ xs) (suc i) zero x other = refl
slice_get-set_other (y ∷ xs) (suc i) (suc j) x other = slice_get-set_other xs i j x (λ e. other (ap suc e))

-- no row leads to another than its goal
last_stays : (rows : List Part) (lasts : List (Option ℕ)) (n h : ℕ) → is_number h (goal_of rows n (slice_get rows n)) ≡ false
    → slice_get lasts h ≡ Some (last_below (leads_to rows h) n) → slice_get lasts h ≡ Some (last_below (leads_to rows h) (n + 1))
last_stays rows lasts n h other e = e ∙ ap Some (sym (rw (add-one, last_no (leads_to rows h) n other) refl))

last_next : (rows : List Part) (lasts : List (Option ℕ)) (n : ℕ) (goal : Option ℕ) → goal ≡ goal_of rows n (slice_get rows n) → (h : ℕ) → h < length lasts
    → slice_get lasts h ≡ Some (last_below (leads_to rows h) n) → slice_get (with_goal goal n lasts) h ≡ Some (last_below (leads_to rows h) (n + 1))
last_next rows lasts n None is h lt e = last_stays rows lasts n h (rw (← is) refl) e
last_next rows lasts n (Some g) is h lt e =
    elim (cases_eq h g) [
      | inl same ↦
          let leads : leads_to rows h n ≡ true = rw (← is) (eq-eqb g h (sym same)) in
          rw (same, add-one) (slice_get-set_same lasts g (Some n) (rw same at lt) ∙ ap Some (sym (last_yes (leads_to rows g) n (rw same at leads))))
      | inr other ↦
          let off : is_number h (goal_of rows n (slice_get rows n)) ≡ false = rw (← is) (ne_eqb g h (λ e. other (sym e))) in
          slice_get-set_other lasts g h (Some n) other ∙ last_stays rows lasts n h off e
    ]

length-with_goal : (goal : Option ℕ) (n : ℕ) (lasts : List (Option ℕ)) → length (with_goal goal n lasts) ≡ length lasts
length-with_goal None n lasts = refl
length-with_goal (Some g) n lasts = length-set lasts g (Some n)

at_goal_is : (goal : Option ℕ) (lasts : List (Option ℕ)) (h : ℕ) (last : Option ℕ) → is_number h goal ≡ true → slice_get lasts h ≡ Some last → at_goal goal lasts ≡ last
at_goal_is None lasts h last is e = absurd cc
at_goal_is (Some g) lasts h last is e = ap known_at (subst (λ (k : ℕ). slice_get lasts k ≡ Some last) (sym (eqb-true g h is)) e)

pub linked_more : (rows : List Part) (lasts earlier : List (Option ℕ)) (n : ℕ) (goal : Option ℕ) → goal ≡ goal_of rows n (slice_get rows n)
    → AreLinked rows lasts earlier n → AreLinked rows (with_goal goal n lasts) (earlier ++ at_goal goal lasts ∷ []) (n + 1)
linked_more rows lasts earlier n goal is before = record {
  len = length-append earlier (at_goal goal lasts ∷ []) ∙ ap (λ (k : ℕ). k + 1) before.len;
  all = length-with_goal goal n lasts ∙ before.all;
  last = λ h lt. last_next rows lasts n goal is h (omega (arith, lt, before.all)) (before.last h lt);
  before = λ k lt h within leads.
      elim (cases_eq k n) [
        | inl same ↦
            let here : is_number h goal ≡ true = rw (is, ← same) leads in
            rw same
            (subst (λ (i : ℕ). slice_get (earlier ++ at_goal goal lasts ∷ []) i ≡ Some (at_goal goal lasts)) before.len (slice_get-seam earlier (at_goal goal lasts))
            ∙ ap Some (at_goal_is goal lasts h _ here (before.last h within)))
        | inr other ↦ slice_get-front earlier (at_goal goal lasts ∷ []) k (omega (arith, before.len, lt, other)) ∙ before.before k (omega (arith, lt, other)) h within leads
      ];
}
