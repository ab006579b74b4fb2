-- The nodes that an element is in.
use Rattle.std.proofs.Common.{◌≡◌, ◌∙◌, inl, inr, ℕ, zero, suc, ◌+◌, ◌-◌, ◌<◌, ◌≤◌, ◌==◌, nat_lt, Bool, [], ◌∷◌, length, arith, if◌then◌else◌, ap, sym, refl, subst, add-one, encode_utf8_all, filter, false}
use Rattle.std.proofs.lemmas.Bool.{cases_lt, cases_eq, cond-true, cond-false, ne_eqb, lt-ltb, le-ltb}
use Rattle.squawk_tree.specs.Forest.{Forest, Nothing, Token, Node, Error, forest_bytes}
use Rattle.syntax_tree.specs.Trees.{size, forest_at, inner_of, size_at, numbers_below, ancestors_of}
use Rattle.syntax_tree.specs.Layout.{Laid, IsTree, outermost}
use Rattle.syntax_tree.specs.Views.{element_in, ancestors_from, IsAtAncestor}
use Rattle.syntax_tree.proofs.Beside.{beside, size-beside}
use Rattle.syntax_tree.proofs.Laid.{AreLaid, laid_at, laid_inner, laid_others}
use Rattle.syntax_tree.proofs.Places.{place_at, Stands, reads}
use Rattle.syntax_tree.proofs.Children.{inner_are}
use Rattle.syntax_tree.proofs.Siblings.{root_only, stands, parent_before, parent_ends}

-- ---- where elements end

ends_laid : (f : Forest) (node at start all i : ℕ) → i < size f → (laid_at f node at start all i).behind ≤ at + size f
ends_laid Nothing node at start all i below = absurd (omega (arith, below))
ends_laid (Token kind text others) node at start all zero below = omega arith
ends_laid (Token kind text others) node at start all (suc i) below =
    omega (arith, ends_laid others node (at + 1) (start + length (encode_utf8_all text)) all i (omega (arith, below)))
ends_laid (Node kind inner others) node at start all zero below = omega arith
ends_laid (Node kind inner others) node at start all (suc i) below =
    elim (cases_lt i (size inner)) [
      | inl lt ↦
          omega (arith, ap (λ e. e.behind) (laid_inner kind inner others node at start all i lt), ends_laid inner at (at + 1) start (outermost others at all) i lt)
      | inr ge ↦
          omega (
            arith,
            ap (λ e. e.behind) (laid_others kind inner others node at start all i ge),
            ends_laid others node (at + 1 + size inner) (start + forest_bytes inner) all (i - size inner) (omega (arith, below, ge)),
          )
    ]
ends_laid (Error text pos others) node at start all i below = ends_laid others node at start all i below

-- those of trees before others end before the others
before_ends : (before rest : Forest) (node at start all i : ℕ) → i < size before → (laid_at (beside before rest) node at start all i).behind ≤ at + size before
before_ends Nothing rest node at start all i below = absurd (omega (arith, below))
before_ends (Token kind text others) rest node at start all zero below = omega arith
before_ends (Token kind text others) rest node at start all (suc i) below =
    omega (arith, before_ends others rest node (at + 1) (start + length (encode_utf8_all text)) all i (omega (arith, below)))
before_ends (Node kind inner others) rest node at start all zero below = omega arith
before_ends (Node kind inner others) rest node at start all (suc i) below =
    elim (cases_lt i (size inner)) [
      | inl lt ↦
          omega (
            arith,
            ap (λ e. e.behind) (laid_inner kind inner (beside others rest) node at start all i lt),
            ends_laid inner at (at + 1) start (outermost (beside others rest) at all) i lt,
          )
      | inr ge ↦
          omega (
            arith,
            ap (λ e. e.behind) (laid_others kind inner (beside others rest) node at start all i ge),
            before_ends others rest node (at + 1 + size inner) (start + forest_bytes inner) all (i - size inner) (omega (arith, below, ge)),
          )
    ]
before_ends (Error text pos others) rest node at start all i below = before_ends others rest node at start all i below

-- ---- numbers that pass a test

skipped : (p : ℕ → Bool) (m n : ℕ) → m ≤ n → ((k : ℕ) → m ≤ k → k < n → p k ≡ false) → filter p (numbers_below n) ≡ filter p (numbers_below m)
skipped p m zero le none = let same : zero ≡ m = omega (arith, le) in ap (λ k. filter p (numbers_below k)) same
skipped p m (suc n) le none =
    elim (cases_eq m (suc n)) [
      | inl same ↦ ap (λ k. filter p (numbers_below k)) (sym same)
      | inr less ↦
          cond-false (p n) (n ∷ filter p (numbers_below n)) (filter p (numbers_below n)) (none n (omega (arith, le, less)) (omega arith))
          ∙ skipped p m n (omega (arith, le, less)) (λ k above below. none k above (omega (arith, below)))
    ]

alike : (p q : ℕ → Bool) (n : ℕ) → ((k : ℕ) → k < n → p k ≡ q k) → filter p (numbers_below n) ≡ filter q (numbers_below n)
alike p q zero same = refl
alike p q (suc n) same =
    let rest = alike p q n (λ k below. same k (omega (arith, below))) in
    ap (λ b. if b then n ∷ filter p (numbers_below n) else filter p (numbers_below n)) (same n (omega arith))
    ∙ ap (λ l. if q n then n ∷ l else l) rest

-- ---- ancestors

-- an iterator over ancestors gives the next one, and goes on with its parent
pub record GivesAncestor (laid : Laid) (at from : ℕ) : Type 0 where
  pub gives : ancestors_from laid at from ≡ from ∷ ancestors_from laid at (element_in laid from).parent
  pub on : IsAtAncestor laid at (element_in laid from).parent

module _ (laid : Laid) (tree : Forest) (is : IsTree laid tree) (few : length laid.elements ≤ 4294967295) where
  abbrev p : ℕ → ℕ → Bool
  p at node = nat_lt at (element_in laid node).behind

  some_left : (at from : ℕ) → (from ≡ 4294967295 → ⊥) → ancestors_from laid at from ≡ filter (p at) (numbers_below (from + 1))
  some_left at from some = cond-false (from == 4294967295) [] (filter (p at) (numbers_below (from + 1))) (ne_eqb from 4294967295 some)

  pub ancestors_are : (at : ℕ) → at < length laid.elements → ancestors_from laid at at ≡ ancestors_of tree at
  ancestors_are at below =
      some_left at at (λ none. omega (arith, none, below, few))
      ∙ alike (p at) (λ node. nat_lt at (node + size_at tree node)) (at + 1)
      (λ k lower. ap (nat_lt at) (reads laid tree is k (omega (arith, lower, below))).behind)

  module _ (at from : ℕ) (stand : IsAtAncestor laid at from) (some : from ≡ 4294967295 → ⊥) where
    within : (from ≤ at) × (at < (element_in laid from).behind)
    within = elim stand.within [
      | inl none ↦ absurd (some none)
      | inr both ↦ both
    ]

    below : from < length laid.elements
    below = omega (arith, within, stand.below)

    gives_first : ancestors_from laid at from ≡ from ∷ filter (p at) (numbers_below from)
    gives_first =
        some_left at from some
        ∙ (ap (λ n. filter (p at) (numbers_below n)) (add-one from)
        ∙ cond-true (p at from) (from ∷ filter (p at) (numbers_below from)) (filter (p at) (numbers_below from)) (lt-ltb at (element_in laid from).behind within.1))

    module _ (inside : (element_in laid from).parent ≡ 4294967295 → ⊥) where
      abbrev q : ℕ
      q = (element_in laid from).parent

      st : Stands laid tree from
      st = stands laid tree is from below inside

      before : q < from
      before = parent_before laid tree is from below inside

      -- the elements between them end before this one
      between : (k : ℕ) → q + 1 ≤ k → k < from → p at k ≡ false
      between k above lower =
          let place = place_at laid tree is q (omega (arith, before, below)) in
          let laid_are = inner_are laid place.node q place.start place.all (forest_at tree q) place.begins place.lies.elements in
          let inner : inner_of (forest_at tree q) ≡ beside st.before (forest_at tree from) =
          ap (λ n. inner_of (forest_at tree n)) st.parent ∙ st.inner in
          let laid_before = subst (λ f. AreLaid laid f q (q + 1) place.start laid_are.0) inner laid_are.1 in
          let n = k - (q + 1) in
          let n_below : n < size st.before = omega (arith, above, lower, st.at_is, st.parent) in
          let n_within : n < size (beside st.before (forest_at tree from)) = omega (arith, n_below, size-beside st.before (forest_at tree from)) in
          let place_is : q + 1 + n ≡ k = omega (arith, above) in
          let read = ap (λ e. e.behind) (ap (element_in laid) (sym place_is) ∙ laid_before n n_within) in
          le-ltb at (element_in laid k).behind
          (omega (arith, read, before_ends st.before (forest_at tree from) q (q + 1) place.start laid_are.0 n n_below, st.at_is, st.parent, within))

      later : filter (p at) (numbers_below from) ≡ ancestors_from laid at q
      later =
          skipped (p at) (q + 1) from (omega (arith, before)) between
          ∙ sym (some_left at q inside)

    pub next_ancestor : GivesAncestor laid at from
    next_ancestor = elim (cases_eq (element_in laid from).parent 4294967295) [
      | inl none ↦
          let first = root_only laid tree is from below few none in
          record {
            gives = gives_first
                ∙ ap (λ l. from ∷ l) (ap (λ n. filter (p at) (numbers_below n)) first ∙ ap (ancestors_from laid at) (sym none));
            on = record { below = stand.below; within = inl none };
          }
      | inr inside ↦
          record {
            gives = gives_first ∙ ap (λ l. from ∷ l) (later inside);
            on = record {
              below = stand.below;
              within = inr (
                omega (arith, before inside, within),
                omega (arith, parent_ends laid tree is from below inside, (reads laid tree is from below).behind, within),
              );
            };
          }
    ]
