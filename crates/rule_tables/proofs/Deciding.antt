-- Whether some kinds come both ways, one token after another.
use Rattle.std.proofs.Common.{◌≡◌, ℕ, zero, suc, ◌&&◌, ◌||◌, Bool, true, false, inl, inr, List, [], ◌∷◌, Option, Some, None, slice_get, refl, sym, ◌∙◌}
use Rattle.std.specs.List.{All, list_any}
use Rattle.std.proofs.lemmas.Bool.{cases_Bool}
use Rattle.squawk_kinds.specs.TokenSets.{has}
use Rattle.squawk_kinds.specs.declared.token_set.TokenSet.{TokenSet}
use Rattle.rule_grammar.specs.declared.part.Part.{Part}
use Rattle.rule_grammar.specs.declared.part.Part.TheVariants.{Repeat, List as Items, Some as Once}
use Rattle.rule_tables.specs.Looks.{IsAlike}
use Rattle.rule_tables.specs.Places.{Begins, IsOneOf, Leaves, Plan, Sees, SeesFrom, Steps, does_eat, eats, first_in, separates}
use Rattle.rule_tables.specs.Places.Sees.{nothing, steps}
use Rattle.rule_tables.specs.Walks.{AreFirst, AreNext}
use Rattle.rule_tables.specs.declared.place.Place.{Place}
use Rattle.rule_tables.specs.declared.place.Place.TheVariants.{Before, After, Separator, End}
use Rattle.rule_tables.proofs.Over.{all_at, over_from}

or_left : (a b : Bool) → a ≡ true → (a || b) ≡ true
or_left a b e = rw e refl

or_right : (a b : Bool) → b ≡ true → (a || b) ≡ true
or_right true b e = refl
or_right false b e = e

any_at : (p : Place → Bool) (xs : List Place) (i : ℕ) (x : Place) → slice_get xs i ≡ Some x → p x ≡ true → list_any p xs ≡ true
any_at p [] i x e has = absurd cc
any_at p (y ∷ xs) zero x e has = let same : y ≡ x = cc in or_left (p y) (list_any p xs) (rw same has)
any_at p (y ∷ xs) (suc i) x e has = or_right (p y) (list_any p xs) (any_at p xs i x e has)

at_any : (p : Place → Bool) (xs : List Place) → list_any p xs ≡ true → (x : Place) × IsOneOf xs x × (p x ≡ true)
at_any p [] e = absurd cc
at_any p (y ∷ xs) e =
    elim (cases_Bool (p y)) [
      | inl has ↦ (y, record { index = 0; is = refl }, has)
      | inr lacks ↦
          let rest : (x : Place) × IsOneOf xs x × (p x ≡ true) = at_any p xs (rw lacks at e) in
          (rest.0, record { index = suc rest.1.index; is = rest.1.is }, rest.2)
    ]

-- where a token is eaten, there is a place after it
leaves_some : (rows : List Part) (k : ℕ) (row : Option Part) (kind : ℕ) → separates row kind ≡ true → Leaves rows k row (After k)
leaves_some rows k None kind e = absurd cc
leaves_some rows k (Some (Repeat end)) kind e = inr refl
leaves_some rows k (Some (Once end)) kind e = inr refl
leaves_some rows k (Some (Items end one)) kind e = inr refl
leaves_some rows k (Some row) kind e = refl

begins_some : (rows : List Part) (k : ℕ) (first : Option ℕ) (kind : ℕ) → separates (slice_get rows k) kind ≡ true → (q : Place) × Begins rows k first q
begins_some rows k None kind e = (After k, leaves_some rows k (slice_get rows k) kind e)
begins_some rows k (Some first) kind e = (Before first, refl)

step_some : (plan : Plan) (p : Place) (kind : ℕ) → eats plan p kind ≡ true → (q : Place) × Steps plan p q
step_some plan (Before k) kind e = (After k, refl)
step_some plan (After k) kind e = absurd cc
step_some plan (Separator k) kind e = begins_some plan.rows k (first_in plan.rows k) kind e
step_some plan End kind e = (End, refl)

abbrev pub any_eats : Plan → List Place → ℕ → Bool
any_eats plan places kind = list_any (λ p. eats plan p kind) places

pub eaten_any : (plan : Plan) (places : List Place) (kind : ℕ) (word : List ℕ) → All (λ p. does_eat plan p ≡ true) places → SeesFrom plan places (kind ∷ word) → any_eats plan places kind ≡ true
eaten_any plan places kind word does from =
    any_at (λ p. eats plan p kind) places from.one.index from.place from.one.is (over_from plan from.place kind word (all_at (λ p. does_eat plan p ≡ true) places from.one.index from.place does from.one.is) from.sees).1

pub any_eaten : (plan : Plan) (places : List Place) (kind : ℕ) → any_eats plan places kind ≡ true → SeesFrom plan places (kind ∷ [])
any_eaten plan places kind e =
    let found : (x : Place) × IsOneOf places x × (eats plan x kind ≡ true) = at_any (λ p. eats plan p kind) places e in
    record { place = found.0; one = found.1; sees = steps found.2 (step_some plan found.0 kind found.2).1 nothing }

pub one_any : (a b : Bool) → (a && b) ≡ true → (a ≡ true) × (b ≡ true)
one_any true true e = (refl, refl)
one_any true false e = absurd cc
one_any false b e = absurd cc

-- the kinds of a set that are eaten at one are eaten at the same places
pub alike_sees : (plan : Plan) (places : List Place) (group : TokenSet) → All (λ p. does_eat plan p ≡ true) places → IsAlike plan places group → (a b : ℕ) → has group a ≡ true → has group b ≡ true → (word : List ℕ)
    → SeesFrom plan places (a ∷ word) → SeesFrom plan places (b ∷ word)
alike_sees plan places group does alike a b in_a in_b word from =
    let over : (q : Place) × (eats plan from.place a ≡ true) × Steps plan from.place q × Sees plan q word = over_from plan from.place a word (all_at (λ p. does_eat plan p ≡ true) places from.one.index from.place does from.one.is) from.sees in
    record { place = from.place; one = from.one; sees = steps (sym (alike a b in_a in_b from.place from.one) ∙ over.1) over.2 over.3 }

-- the kinds that some places eat are those that come next where these are first
pub next_kinds : (plan : Plan) (p : Place) (places : List Place) (kinds : TokenSet) → AreFirst plan (Sees plan p) places → ((kind : ℕ) → has kinds kind ≡ any_eats plan places kind) → AreNext plan p kinds
next_kinds plan p places kinds first are kind = (
  λ holds. first.only kind [] (any_eaten plan places kind (sym (are kind) ∙ holds)),
  λ sees. are kind ∙ eaten_any plan places kind [] first.eat (first.all kind [] sees),
)
