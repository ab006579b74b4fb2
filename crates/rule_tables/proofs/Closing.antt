-- Walks that go on until nothing is new.
use Rattle.std.proofs.Common.{◌≡◌, ◌⊎◌, ℕ, zero, suc, ◌+◌, ◌<◌, ◌≤◌, ◌==◌, inl, inr, List, [], ◌∷◌, length, Option, Some, None, Bool, true, false, slice_get, arith, refl, sym, subst, ◌∙◌}
use Rattle.std.specs.List.{filter}
use Rattle.std.proofs.lemmas.Bool.{cases_Bool, cases_eq}
use Rattle.std.proofs.lemmas.List.Elements.{filter_passes}
use Rattle.std.proofs.lemmas.List.Sums.{count_by-le-length}
use Rattle.std.proofs.lemmas.Option.{slice_get_within}
use Rattle.rule_grammar.specs.declared.part.Part.{Part}
use Rattle.rule_tables.specs.Places.{Enters, Exits, IsOneOf, Moves, Plan, Sees, SeesFrom, does_eat, eats, row_eats, separates}
use Rattle.rule_tables.specs.Places.Sees.{moves, steps}
use Rattle.rule_tables.specs.Walks.{AreFirst, Goes, HasReached, IsClosed, IsWalking, Reaches, slot, slots}
use Rattle.rule_tables.specs.declared.place.Place.{Place}
use Rattle.rule_tables.specs.declared.place.Place.TheVariants.{Before, After, Separator, End}
use Rattle.rule_tables.specs.declared.walk.Walk.{Walk}
use Rattle.rule_tables.proofs.Other.{row_eats-token, token-no_move}
use Rattle.rule_tables.proofs.Walking.{one_kept, reaches_as, reaches_then}

-- the first places that were reached are done with: all that they lead on to was reached
pub record IsClosing (plan : Plan) (seeds : List Place) (walk : Walk) (done : ℕ) : Type 0 where
  pub walks : IsWalking walk
  pub len : length walk.marks.items ≡ slots (length plan.rows)
  pub within : done ≤ length walk.reached.items
  pub has : (p : Place) → IsOneOf seeds p → IsOneOf walk.reached.items p
  pub moved : (i : ℕ) → i < done → (p q : Place) → slice_get walk.reached.items i ≡ Some p → Moves plan p q → slot q < slots (length plan.rows) → IsOneOf walk.reached.items q
  pub sound : (i : ℕ) (p : Place) → slice_get walk.reached.items i ≡ Some p → (word : List ℕ) → Sees plan p word → SeesFrom plan seeds word

pub few_reached : (walk : Walk) → IsWalking walk → length walk.reached.items ≤ length walk.marks.items
few_reached walk w = omega (arith, w.count, count_by-le-length (λ mark. mark == walk.number) walk.marks.items)

pub closing_first : (plan : Plan) (walk : Walk) → IsWalking walk → length walk.marks.items ≡ slots (length plan.rows) → IsClosing plan walk.reached.items walk 0
closing_first plan walk walks len = record {
  walks = walks;
  len = len;
  within = omega arith;
  has = λ p one. one;
  moved = λ i lt. absurd (omega arith);
  sound = λ i p e word sees. record { place = p; one = record { index = i; is = e }; sees = sees };
}

module _ (plan : Plan) (seeds : List Place) (old new : Walk) (done : ℕ) (closing : IsClosing plan seeds old done) where
  pub closing_done : length old.reached.items ≤ done → IsClosed plan seeds old.reached.items
  closing_done all = record {
    has = closing.has;
    moved = λ p q one moved. closing.moved one.index (let lt : one.index < length old.reached.items = slice_get_within old.reached.items one.index p one.is in omega arith) p q one.is moved;
    sound = λ p one. closing.sound one.index p one.is;
  }

  pub closing_next : (p : Place) → slice_get old.reached.items done ≡ Some p → Goes old new (Moves plan p) → IsClosing plan seeds new (done + 1)
  closing_next p here goes =
      let lt : done < length old.reached.items = slice_get_within old.reached.items done p here in
      let reaches : Reaches (length old.marks.items) old.reached.items new.reached.items (Moves plan p) = goes.reaches closing.walks in
      record {
        walks = goes.walks closing.walks;
        len = goes.len ∙ closing.len;
        within = omega (arith, reaches.longer);
        has = λ q one. one_kept reaches q (closing.has q one);
        moved = λ i below r q is moved within.
            elim (cases_eq i done) [
              | inl same ↦
                  let it : Some p ≡ Some r = sym here ∙ sym (reaches.same done lt) ∙ subst (λ (k : ℕ). slice_get new.reached.items k ≡ Some r) same is in
                  let name : r ≡ p = cc in
                  reaches.all q (subst (λ (x : Place). Moves plan x q) name moved) (omega (arith, closing.len))
              | inr other ↦ one_kept reaches q (closing.moved i (omega arith) r q (sym (reaches.same i (omega arith)) ∙ is) moved within)
            ];
        sound = λ i r is word sees.
            elim (reaches.only i r is) [
              | inl before ↦ closing.sound i r (sym (reaches.same i before) ∙ is) word sees
              | inr moved ↦ closing.sound done p here word (moves moved sees)
            ];
      }

-- ---- a place from which tokens come is one of the rows

moves_before : (rows : List Part) (k : ℕ) (row : Option Part) (q : Place) → slice_get rows k ≡ row → Enters rows k row q → k < length rows
moves_before rows k (Some part) q e moved = slice_get_within rows k part e
moves_before rows k None q e moved = absurd moved

moves_after : (plan : Plan) (k : ℕ) (row : Option Part) (q : Place) → slice_get plan.rows k ≡ row → Exits plan k row q → k < length plan.rows
moves_after plan k (Some part) q e moved = slice_get_within plan.rows k part e
moves_after plan k None q e moved = absurd moved

moves_within : (plan : Plan) (p q : Place) → Moves plan p q → slot p < slots (length plan.rows)
moves_within plan (Before k) q moved = let lt : k < length plan.rows = moves_before plan.rows k (slice_get plan.rows k) q refl moved in omega arith
moves_within plan (After k) q moved = let lt : k < length plan.rows = moves_after plan k (slice_get plan.rows k) q refl moved in omega arith
moves_within plan (Separator k) q moved = absurd moved
moves_within plan End q moved = omega arith

eats_before : (rows : List Part) (k : ℕ) (row : Option Part) (test : Option Part → Bool) → slice_get rows k ≡ row → test None ≡ false → test row ≡ true → k < length rows
eats_before rows k (Some part) test e none has = slice_get_within rows k part e
eats_before rows k None test e none has = absurd cc

eats_within : (plan : Plan) (p : Place) (kind : ℕ) → eats plan p kind ≡ true → slot p < slots (length plan.rows)
eats_within plan (Before k) kind eaten = let lt : k < length plan.rows = eats_before plan.rows k (slice_get plan.rows k) (λ row. row_eats plan.sets row kind) refl refl eaten in omega arith
eats_within plan (After k) kind eaten = absurd cc
eats_within plan (Separator k) kind eaten = let lt : k < length plan.rows = eats_before plan.rows k (slice_get plan.rows k) (λ row. separates row kind) refl refl eaten in omega arith
eats_within plan End kind eaten = omega arith

pub sees_within : (plan : Plan) (p : Place) (kind : ℕ) (word : List ℕ) → Sees plan p (kind ∷ word) → slot p < slots (length plan.rows)
sees_within plan p kind word (moves {q = q} moved sees) = moves_within plan p q moved
sees_within plan p kind word (steps eaten stepped sees) = eats_within plan p kind eaten

-- ---- where tokens are eaten

pub eats_does : (plan : Plan) (p : Place) (kind : ℕ) → eats plan p kind ≡ true → does_eat plan p ≡ true
eats_does plan (Before k) kind eaten = row_eats-token plan.sets (slice_get plan.rows k) kind eaten
eats_does plan (After k) kind eaten = absurd cc
eats_does plan (Separator k) kind eaten = refl
eats_does plan End kind eaten = refl

pub does_no_move : (plan : Plan) (p q : Place) → does_eat plan p ≡ true → Moves plan p q → ⊥
does_no_move plan (Before k) q does moved = token-no_move plan.rows k (slice_get plan.rows k) q does moved
does_no_move plan (After k) q does moved = absurd cc
does_no_move plan (Separator k) q does moved = moved
does_no_move plan End q does moved = moved

pub filter-yes : (p : Place → Bool) (x : Place) (xs : List Place) → p x ≡ true → filter p (x ∷ xs) ≡ x ∷ filter p xs
filter-yes p x xs e = rw e refl

pub filter-no : (p : Place → Bool) (x : Place) (xs : List Place) → p x ≡ false → filter p (x ∷ xs) ≡ filter p xs
filter-no p x xs e = rw e refl

one_first : (x : Place) (xs : List Place) → IsOneOf (x ∷ xs) x
one_first x xs = record { index = 0; is = refl }

one_later : (x y : Place) (xs : List Place) → IsOneOf xs y → IsOneOf (x ∷ xs) y
one_later x y xs one = record { index = suc one.index; is = one.is }

pub one_kept_by : (p : Place → Bool) (xs : List Place) (y : Place) (i : ℕ) → slice_get xs i ≡ Some y → p y ≡ true → IsOneOf (filter p xs) y
one_kept_by p [] y i e has = absurd cc
one_kept_by p (x ∷ xs) y zero e has =
    let same : x ≡ y = cc in
    let passes : p x ≡ true = rw same has in
    rw (filter-yes p x xs passes, same) (one_first y (filter p xs))
one_kept_by p (x ∷ xs) y (suc i) e has =
    let rest : IsOneOf (filter p xs) y = one_kept_by p xs y i e has in
    elim (cases_Bool (p x)) [
      | inl passes ↦ rw (filter-yes p x xs passes) (one_later x y (filter p xs) rest)
      | inr fails ↦ rw (filter-no p x xs fails) rest
    ]

pub one_of_kept : (p : Place → Bool) (xs : List Place) (y : Place) (i : ℕ) → slice_get (filter p xs) i ≡ Some y → IsOneOf xs y
one_of_kept p [] y i e = absurd cc
one_of_kept p (x ∷ xs) y zero e =
    elim (cases_Bool (p x)) [
      | inl passes ↦
          let here : Some x ≡ Some y = rw (filter-yes p x xs passes) at e in
          let same : x ≡ y = cc in
          rw (← same) (one_first x xs)
      | inr fails ↦ one_later x y xs (one_of_kept p xs y zero (rw (filter-no p x xs fails) at e))
    ]
one_of_kept p (x ∷ xs) y (suc i) e =
    elim (cases_Bool (p x)) [
      | inl passes ↦ let later : slice_get (filter p xs) i ≡ Some y = rw (filter-yes p x xs passes) at e in one_later x y xs (one_of_kept p xs y i later)
      | inr fails ↦ one_later x y xs (one_of_kept p xs y (suc i) (rw (filter-no p x xs fails) at e))
    ]

module _ (plan : Plan) (seeds reached : List Place) (closed : IsClosed plan seeds reached) where
  found : {p : Place} {kind : ℕ} {word : List ℕ} → IsOneOf reached p → Sees plan p (kind ∷ word) → SeesFrom plan (filter (does_eat plan) reached) (kind ∷ word)
  found {p} {kind} {word} one (moves {q = q} moved sees) = found (closed.moved p q one moved (sees_within plan q kind word sees)) sees
  found {p} {kind} {word} one (steps eaten stepped sees) = record { place = p; one = one_kept_by (does_eat plan) reached p one.index one.is (eats_does plan p kind eaten); sees = steps eaten stepped sees }

  -- the places that eat, of those that were reached
  pub first_of : AreFirst plan (SeesFrom plan seeds) (filter (does_eat plan) reached)
  first_of = record {
    eat = filter_passes (does_eat plan) reached;
    only = λ kind word from. closed.sound from.place (one_of_kept (does_eat plan) reached from.place from.one.index from.one.is) (kind ∷ word) from.sees;
    all = λ kind word from. found (closed.has from.place from.one) from.sees;
  }

-- what comes from the places of a walk, by what its places are
pub first_by : (plan : Plan) (walk : Walk) (P : Place → Type 0) (Such : List ℕ → Type 0) (places : List Place) → HasReached plan walk P → AreFirst plan (SeesFrom plan walk.reached.items) places
    → ((p : Place) (word : List ℕ) → P p → Sees plan p word → Such word) → ((kind : ℕ) (word : List ℕ) → Such (kind ∷ word) → (p : Place) × P p × Sees plan p (kind ∷ word)) → AreFirst plan Such places
first_by plan walk P Such places has first to from = record {
  eat = first.eat;
  only = λ kind word sees.
      let seen : SeesFrom plan walk.reached.items (kind ∷ word) = first.only kind word sees in
      elim (has.reaches.only seen.one.index seen.place seen.one.is) [
        | inl none ↦ absurd (omega arith)
        | inr such ↦ to seen.place (kind ∷ word) such seen.sees
      ];
  all = λ kind word such.
      let seen : (p : Place) × P p × Sees plan p (kind ∷ word) = from kind word such in
      first.all kind word (record { place = seen.0; one = has.reaches.all seen.0 seen.1 (sees_within plan seen.0 kind word seen.2); sees = seen.2 });
}

-- a walk goes on
pub reached_then : (plan : Plan) (old new : Walk) (P Q : Place → Type 0) → HasReached plan old P → Goes old new Q → HasReached plan new (λ p. P p ⊎ Q p)
reached_then plan old new P Q has goes = record {
  walks = goes.walks has.walks;
  len = goes.len ∙ has.len;
  reaches = reaches_then has.reaches (subst (λ (n : ℕ). Reaches n old.reached.items new.reached.items Q) has.len (goes.reaches has.walks));
}

pub reached_as : (plan : Plan) (walk : Walk) (P Q : Place → Type 0) → ((p : Place) → P p → Q p) → ((p : Place) → Q p → P p) → HasReached plan walk P → HasReached plan walk Q
reached_as plan walk P Q to from has = record { walks = has.walks; len = has.len; reaches = reaches_as to (λ p such lt. from p such) has.reaches }
