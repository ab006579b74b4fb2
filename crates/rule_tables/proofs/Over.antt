-- Places over a token.
use Rattle.std.proofs.Common.{◌≡◌, ◌⊎◌, ℕ, ◌+◌, ◌<◌, inl, inr, List, ◌∷◌, length, Some, true, slice_get, arith, subst, sym, ◌∙◌}
use Rattle.std.specs.List.{All}
use Rattle.std.proofs.lemmas.Bool.{cases_lt}
use Rattle.std.proofs.lemmas.List.Elements.{All-get_or}
use Rattle.std.proofs.lemmas.Option.{get_or_from_slice_get, slice_get_within}
use Rattle.rule_tables.specs.Places.{Plan, Sees, SeesFrom, Steps, does_eat, eats}
use Rattle.rule_tables.specs.Places.Sees.{moves, steps}
use Rattle.rule_tables.specs.Walks.{AreFirst, Goes, HasReached}
use Rattle.rule_tables.specs.declared.place.Place.{Place}
use Rattle.rule_tables.specs.declared.walk.Walk.{Walk}
use Rattle.rule_tables.proofs.Closing.{does_no_move, first_by, reached_as, reached_then}

-- a place is over a token of the kind, from one of the first n places
pub record IsOver (plan : Plan) (places : List Place) (kind n : ℕ) (q : Place) : Type 0 where
  pub index : ℕ
  pub first : index < n
  pub place : Place
  pub is : slice_get places index ≡ Some place
  pub eaten : eats plan place kind ≡ true
  pub stepped : Steps plan place q

pub over_none : (plan : Plan) (places : List Place) (kind : ℕ) (walk : Walk) → HasReached plan walk (λ q. ⊥) → HasReached plan walk (IsOver plan places kind 0)
over_none plan places kind walk has = reached_as plan walk (λ q. ⊥) (IsOver plan places kind 0) (λ q none. absurd none) (λ q over. let first : over.index < 0 = over.first in absurd (omega arith)) has

last_over : (plan : Plan) (places : List Place) (kind n : ℕ) (p q : Place) → slice_get places n ≡ Some p → IsOver plan places kind (n + 1) q → IsOver plan places kind n q ⊎ ((eats plan p kind ≡ true) × Steps plan p q)
last_over plan places kind n p q here over =
    let first : over.index < n + 1 = over.first in
    elim (cases_lt over.index n) [
      | inl before ↦ inl (record { index = over.index; first = before; place = over.place; is = over.is; eaten = over.eaten; stepped = over.stepped })
      | inr after ↦
          let same : over.index ≡ n = omega arith in
          let found : Some p ≡ Some over.place = sym here ∙ subst (λ (k : ℕ). slice_get places k ≡ Some over.place) same over.is in
          let name : over.place ≡ p = cc in
          inr (subst (λ (x : Place). eats plan x kind ≡ true) name over.eaten, subst (λ (x : Place). Steps plan x q) name over.stepped)
    ]

pub over_more : (plan : Plan) (places : List Place) (kind n : ℕ) (old new : Walk) (p : Place) → slice_get places n ≡ Some p → HasReached plan old (IsOver plan places kind n) → Goes old new (λ q. (eats plan p kind ≡ true) × Steps plan p q)
    → HasReached plan new (IsOver plan places kind (n + 1))
over_more plan places kind n old new p here has goes =
    reached_as plan new _ (IsOver plan places kind (n + 1))
    (λ q such. elim such [
      | inl before ↦ let first : before.index < n = before.first in record { index = before.index; first = omega arith; place = before.place; is = before.is; eaten = before.eaten; stepped = before.stepped }
      | inr it ↦ record { index = n; first = omega arith; place = p; is = here; eaten = it.0; stepped = it.1 }
    ])
    (λ q over. last_over plan places kind n p q here over)
    (reached_then plan old new (IsOver plan places kind n) (λ q. (eats plan p kind ≡ true) × Steps plan p q) has goes)

pub all_at : {X : Type 0} (P : X → Type 0) (xs : List X) (i : ℕ) (x : X) → All P xs → slice_get xs i ≡ Some x → P x
all_at P xs i x all e = subst P (get_or_from_slice_get xs i x x e) (All-get_or P xs i x (slice_get_within xs i x e) all)

pub over_from : (plan : Plan) (p : Place) (kind : ℕ) (word : List ℕ) → does_eat plan p ≡ true → Sees plan p (kind ∷ word) → (q : Place) × (eats plan p kind ≡ true) × Steps plan p q × Sees plan q word
over_from plan p kind word does (moves {q = q} moved sees) = absurd (does_no_move plan p q does moved)
over_from plan p kind word does (steps {q = q} eaten stepped sees) = (q, eaten, stepped, sees)

-- what comes after a token of the kind
pub first_over : (plan : Plan) (places : List Place) (kind : ℕ) (walk : Walk) (found : List Place) → All (λ p. does_eat plan p ≡ true) places → HasReached plan walk (IsOver plan places kind (length places)) → AreFirst plan (SeesFrom plan walk.reached.items) found
    → AreFirst plan (λ word. SeesFrom plan places (kind ∷ word)) found
first_over plan places kind walk found does has first =
    first_by plan walk (IsOver plan places kind (length places)) (λ word. SeesFrom plan places (kind ∷ word)) found has first
    (λ p word over sees. record { place = over.place; one = record { index = over.index; is = over.is }; sees = steps over.eaten over.stepped sees })
    (λ next word from.
    let lt : from.one.index < length places = slice_get_within places from.one.index from.place from.one.is in
    let step : (q : Place) × (eats plan from.place kind ≡ true) × Steps plan from.place q × Sees plan q (next ∷ word) = over_from plan from.place kind (next ∷ word) (all_at (λ p. does_eat plan p ≡ true) places from.one.index from.place does from.one.is) from.sees in
    (step.0, record { index = from.one.index; first = lt; place = from.place; is = from.one.is; eaten = step.1; stepped = step.2 }, step.3))
