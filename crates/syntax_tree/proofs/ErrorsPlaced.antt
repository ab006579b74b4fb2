-- Where the errors of a tree stand: in the order of their places, those in an element one behind another.
use Rattle.std.proofs.Common.{◌≡◌, ◌∙◌, ◌⊎◌, inl, inr, ℕ, zero, suc, ◌+◌, ◌-◌, ◌<◌, ◌≤◌, ◌&&◌, Bool, true, false, List, [], ◌∷◌, ◌++◌, length, map, filter, take, drop, cond, get_or, leb, nat_le, nat_lt, slice_range, arith, ap, sym, refl, subst, append_assoc, append-nil, All}
use Rattle.std.specs.List.Sorted.{IsNonDecreasingBy, IsPartitionedBy, IsPartitionPoint}
use Rattle.std.proofs.lemmas.Bool.{cases_lt, cond-false, leb-false, leb-true, lt-leb, le-ltb}
use Rattle.std.proofs.Math.Bool.{and-false}
use Rattle.std.proofs.lemmas.List.{get_or-drop, length-drop}
use Rattle.std.proofs.lemmas.List.Sorted.{IsPartitionedBy-leb}
use Rattle.std.proofs.lemmas.List.Elements.{All-nil, All-cons, All-append, All-weaker, All-same}
use Rattle.squawk_tree.specs.Forest.{Forest, Nothing, Token, Node, Error, forest_steps}
use Rattle.syntax_tree.specs.Trees.{size, size_at, inner_of}
use Rattle.syntax_tree.specs.Layout.{Laid, IsTree, errors_of}
use Rattle.syntax_tree.specs.Errors.{ComeBefore, errors_between, errors_left}
use Rattle.syntax_tree.specs.Walks.{InTree, blank_error, error_in, in_tree}
use Rattle.syntax_tree.specs.declared.tree.TreeError.{TreeError}
use Rattle.syntax_tree.proofs.Laid.{next_is}
use Rattle.syntax_tree.proofs.NodesLeft.{filter-map}
use Rattle.syntax_tree.proofs.Texts.{elements_are, at-inner, at-others, at-within}

-- ---- their nodes, and the places of the elements behind them

-- An error of trees stands directly in the node that they are in, or in one of them. Behind it comes an element of them that is
-- behind its node, or what comes behind them.
places_of : (P : ℕ → ℕ → Type 0) (trees : Forest) (node at given : ℕ) → ((next : ℕ) → at ≤ next → next ≤ at + size trees → P node next)
    → ((inside next : ℕ) → at ≤ inside → inside < at + size trees → inside < next → next ≤ at + size trees → P inside next)
    → All (λ e. P e.node e.next) (errors_of trees node at given)
places_of P Nothing node at given own others_own = All-nil (λ e. P e.node e.next)
places_of P (Token kind text others) node at given own inner_own =
    places_of P others node (at + 1) (given + 1) (λ next ge le. own next (omega (arith, ge)) (omega (arith, le)))
    (λ inside next ge lt behind le. inner_own inside next (omega (arith, ge)) (omega (arith, lt)) behind (omega (arith, le)))
places_of P (Node kind inner others) node at given own inner_own =
    let behind = at + 1 + size inner in
    let later = given + 2 + length (forest_steps inner) in
    All-append (λ e. P e.node e.next) (errors_of inner at (at + 1) (given + 1)) (errors_of others node behind later)
    (places_of P inner at (at + 1) (given + 1) (λ next ge le. inner_own at next (omega arith) (omega arith) (omega (arith, ge)) (omega (arith, le)))
    (λ inside next ge lt past le. inner_own inside next (omega (arith, ge)) (omega (arith, lt)) past (omega (arith, le))))
    (places_of P others node behind later (λ next ge le. own next (omega (arith, ge)) (omega (arith, le)))
    (λ inside next ge lt past le. inner_own inside next (omega (arith, ge)) (omega (arith, lt)) past (omega (arith, le))))
places_of P (Error text pos others) node at given own inner_own =
    All-cons (λ e. P e.node e.next) (record { msg = text; pos = pos; node = node; next = at; step = given }) (errors_of others node at (given + 1))
    (own at (omega arith) (omega arith)) (places_of P others node at (given + 1) own inner_own)

module _ (laid : Laid) (tree : Forest) (is : IsTree laid tree) where
  -- the node that an error stands in is an element
  abbrev IsBelow : ℕ → ℕ → Type 0
  IsBelow node next = (node ≡ 4294967295 → ⊥) → node < length laid.elements

  pub node_below : (i : ℕ) → i < length laid.errors → IsBelow (error_in laid i).node (error_in laid i).next
  node_below i below =
      All-same (λ e. IsBelow e.node e.next) laid.errors (errors_of tree 4294967295 0 0) is.errors
      (places_of IsBelow tree 4294967295 0 0 (λ next _ _ some. absurd (some refl))
      (λ inside next _ lt _ _ _. omega (arith, lt, elements_are laid tree is)))
      i blank_error below

-- ---- the places rise

-- they rise from a place on
record Rises (low : ℕ) (errors : List TreeError) : Type 0 where
  above : All (λ e. low ≤ e.next) errors
  rises : IsNonDecreasingBy (λ e. e.next) errors

from_below : (low high : ℕ) (errors : List TreeError) → low ≤ high → Rises high errors → Rises low errors
from_below low high errors le r = record {
  above = All-weaker (λ e. high ≤ e.next) (λ e. low ≤ e.next) (λ e from. omega (arith, le, from)) errors r.above;
  rises = r.rises;
}

rises_first : (error : TreeError) (errors : List TreeError) → Rises error.next errors → IsNonDecreasingBy (λ e. e.next) (error ∷ errors)
rises_first error errors r zero zero d le within = omega arith
rises_first error errors r zero (suc j) d le within = r.above j d (omega (arith, within))
rises_first error errors r (suc i) zero d le within = absurd (omega (arith, le))
rises_first error errors r (suc i) (suc j) d le within = r.rises i j d (omega (arith, le)) (omega (arith, within))

rises_before : (trees : Forest) (node at given : ℕ) (rest : List TreeError) → Rises (at + size trees) rest → Rises at (errors_of trees node at given ++ rest)
rises_before Nothing node at given rest r = from_below at (at + 0) rest (omega arith) r
rises_before (Token kind text others) node at given rest r =
    let more = errors_of others node (at + 1) (given + 1) ++ rest in
    from_below at (at + 1) more (omega arith)
    (rises_before others node (at + 1) (given + 1) rest (from_below (at + 1 + size others) (at + suc (size others)) rest (omega arith) r))
rises_before (Node kind inner others) node at given rest r =
    let behind = at + 1 + size inner in
    let later = given + 2 + length (forest_steps inner) in
    let within = errors_of inner at (at + 1) (given + 1) in
    let more = errors_of others node behind later ++ rest in
    subst (Rises at) (sym (append_assoc within (errors_of others node behind later) rest))
    (from_below at (at + 1) (within ++ more) (omega arith)
    (rises_before inner at (at + 1) (given + 1) more
    (rises_before others node behind later rest (from_below (behind + size others) (at + suc (size inner + size others)) rest (omega arith) r))))
rises_before (Error text pos others) node at given rest r =
    let more = errors_of others node at (given + 1) ++ rest in
    let error : TreeError = record { msg = text; pos = pos; node = node; next = at; step = given } in
    let later = rises_before others node at (given + 1) rest r in
    record { above = All-cons (λ e. at ≤ e.next) error more (omega arith) later.above; rises = rises_first error more later }

pub places_rise : (laid : Laid) (tree : Forest) → IsTree laid tree → IsNonDecreasingBy (λ e. e.next) laid.errors
places_rise laid tree is =
    let none : Rises (0 + size tree) [] = record { above = All-nil (λ e. 0 + size tree ≤ e.next); rises = λ i j d le within. absurd (omega (arith, within)) } in
    subst (IsNonDecreasingBy (λ e. e.next)) (append-nil (errors_of tree 4294967295 0 0) ∙ sym is.errors) (rises_before tree 4294967295 0 0 [] none).rises

-- so many that a search by halves finds
pub come_before : (laid : Laid) (tree : Forest) → IsTree laid tree → (place : ℕ) (errors : List TreeError) → errors ≡ laid.errors → (count : ℕ) → count ≤ length errors
    → (IsPartitionedBy (λ e. leb e.next place) errors → IsPartitionPoint (λ e. leb e.next place ≡ true) (λ e. leb e.next place ≡ false) errors count)
    → ComeBefore laid place count
come_before laid tree is place errors same count bound point =
    let found = subst
    (λ l. IsPartitionedBy (λ e. leb e.next place) l → IsPartitionPoint (λ e. leb e.next place ≡ true) (λ e. leb e.next place ≡ false) l count) same point in
    let parts = found (IsPartitionedBy-leb (λ e. e.next) laid.errors place (places_rise laid tree is)) in
    record {
      within = omega (arith, bound, ap length same);
      before = λ i lt. leb-true (error_in laid i).next place (parts.0 i blank_error (omega arith) lt);
      behind = λ i ge lt. leb-false (error_in laid i).next place (parts.1 i blank_error ge lt);
    }

-- ---- errors before an element and behind it

-- where what comes behind an error begins before the elements between two places, or behind them, its node is none of them
abbrev IsOutside : ℕ → ℕ → ℕ → ℕ → Type 0
IsOutside from behind node next = (next ≤ from) ⊎ (behind < next) → (node < from) ⊎ (behind ≤ node)

outside : (trees : Forest) (node at given i bound : ℕ) → i < size trees → (node < at) ⊎ (bound ≤ node) → at + size trees ≤ bound
    → All (λ e. IsOutside (at + i) (at + i + size_at trees i) e.node e.next) (errors_of trees node at given)
outside Nothing node at given i bound below apart few = absurd (omega (arith, below))
outside (Token kind text others) node at given zero bound below apart few =
    places_of (IsOutside (at + 0) (at + 0 + 1)) others node (at + 1) (given + 1)
    (λ next _ _ _. elim apart [ inl lt ↦ inl (omega (arith, lt)) | inr ge ↦ inr (omega (arith, ge, few)) ])
    (λ inside next ge _ _ _ _. inr (omega (arith, ge)))
outside (Token kind text others) node at given (suc i) bound below apart few =
    subst (λ x. All (λ e. IsOutside x (x + size_at others i) e.node e.next) (errors_of others node (at + 1) (given + 1))) (next_is at i)
    (outside others node (at + 1) (given + 1) i bound (omega (arith, below))
    (elim apart [ inl lt ↦ inl (omega (arith, lt)) | inr ge ↦ inr ge ]) (omega (arith, few)))
outside (Node kind inner others) node at given zero bound below apart few =
    let behind = at + 1 + size inner in
    let later = given + 2 + length (forest_steps inner) in
    let is_out = IsOutside (at + 0) (at + 0 + suc (size inner)) in
    All-append (λ e. is_out e.node e.next) (errors_of inner at (at + 1) (given + 1)) (errors_of others node behind later)
    (places_of is_out inner at (at + 1) (given + 1)
    (λ next ge le out. absurd (elim out [ inl early ↦ omega (arith, ge, early) | inr late ↦ omega (arith, le, late) ]))
    (λ inside next ge lt past le out. absurd (elim out [ inl early ↦ omega (arith, ge, past, early) | inr late ↦ omega (arith, le, late) ])))
    (places_of is_out others node behind later
    (λ next _ _ _. elim apart [ inl lt ↦ inl (omega (arith, lt)) | inr ge ↦ inr (omega (arith, ge, few)) ])
    (λ inside next ge _ _ _ _. inr (omega (arith, ge))))
outside (Node kind inner others) node at given (suc i) bound below apart few =
    let behind = at + 1 + size inner in
    let later = given + 2 + length (forest_steps inner) in
    let is_out = IsOutside (at + suc i) (at + suc i + size_at (Node kind inner others) (suc i)) in
    elim (cases_lt i (size inner)) [
      | inl lt ↦
          let same : size_at (Node kind inner others) (suc i) ≡ size_at inner i = ap (λ f. suc (size (inner_of f))) (at-inner kind inner others i lt) in
          let ends = at-within inner i lt in
          All-append (λ e. is_out e.node e.next) (errors_of inner at (at + 1) (given + 1)) (errors_of others node behind later)
          (subst (λ n. All (λ e. IsOutside (at + suc i) (at + suc i + n) e.node e.next) (errors_of inner at (at + 1) (given + 1))) (sym same)
          (subst (λ x. All (λ e. IsOutside x (x + size_at inner i) e.node e.next) (errors_of inner at (at + 1) (given + 1))) (next_is at i)
          (outside inner at (at + 1) (given + 1) i bound lt (inl (omega arith)) (omega (arith, few)))))
          (places_of is_out others node behind later
          (λ next _ _ _. elim apart [ inl under ↦ inl (omega (arith, under)) | inr ge ↦ inr (omega (arith, ge, few, same, ends)) ])
          (λ inside next ge _ _ _ _. inr (omega (arith, ge, same, ends))))
      | inr ge ↦
          let j = i - size inner in
          let same : size_at (Node kind inner others) (suc i) ≡ size_at others j = ap (λ f. suc (size (inner_of f))) (at-others kind inner others i ge) in
          let place : behind + j ≡ at + suc i = omega (arith, ge) in
          All-append (λ e. is_out e.node e.next) (errors_of inner at (at + 1) (given + 1)) (errors_of others node behind later)
          (places_of is_out inner at (at + 1) (given + 1) (λ next _ _ _. inl (omega arith)) (λ inside next _ lt _ _ _. inl (omega (arith, lt, ge))))
          (subst (λ n. All (λ e. IsOutside (at + suc i) (at + suc i + n) e.node e.next) (errors_of others node behind later)) (sym same)
          (subst (λ x. All (λ e. IsOutside x (x + size_at others j) e.node e.next) (errors_of others node behind later)) place
          (outside others node behind later j bound (omega (arith, below, ge))
          (elim apart [ inl under ↦ inl (omega (arith, under)) | inr past ↦ inr past ]) (omega (arith, few)))))
    ]
outside (Error text pos others) node at given i bound below apart few =
    All-cons (λ e. IsOutside (at + i) (at + i + size_at others i) e.node e.next) (record { msg = text; pos = pos; node = node; next = at; step = given })
    (errors_of others node at (given + 1))
    (λ _. elim apart [ inl lt ↦ inl (omega (arith, lt)) | inr ge ↦ inr (omega (arith, ge, few, at-within others i below)) ])
    (outside others node at (given + 1) i bound below apart few)

-- ---- those in an element

-- items that fail a test may be left out at the front, and at the end
filter-drop : {X : Type 0} (p : X → Bool) (list : List X) (n : ℕ) (d : X) → n ≤ length list → ((i : ℕ) → i < n → p (get_or list i d) ≡ false) → filter p (drop n list) ≡ filter p list
filter-drop p list zero d within fails = refl
filter-drop p [] (suc n) d within fails = refl
filter-drop p (x ∷ list) (suc n) d within fails =
    filter-drop p list n d (omega (arith, within)) (λ i lt. fails (suc i) (omega (arith, lt)))
    ∙ sym (cond-false (p x) (x ∷ filter p list) (filter p list) (fails 0 (omega arith)))

filter-take : {X : Type 0} (p : X → Bool) (list : List X) (n : ℕ) (d : X) → ((i : ℕ) → n ≤ i → i < length list → p (get_or list i d) ≡ false) → filter p (take n list) ≡ filter p list
filter-take p [] zero d fails = refl
filter-take p [] (suc n) d fails = refl
filter-take p (x ∷ list) zero d fails =
    filter-take p list zero d (λ i _ lt. fails (suc i) (omega arith) (omega (arith, lt)))
    ∙ sym (cond-false (p x) (x ∷ filter p list) (filter p list) (fails 0 (omega arith) (omega arith)))
filter-take p (x ∷ list) (suc n) d fails =
    ap (λ rest. cond (p x) (x ∷ rest) rest) (filter-take p list n d (λ i ge lt. fails (suc i) (omega (arith, ge)) (omega (arith, lt))))

abbrev in_between : ℕ → ℕ → TreeError → Bool
in_between at behind e = nat_le at e.node && nat_lt e.node behind

not_between : (at behind : ℕ) (e : TreeError) → (e.node < at) ⊎ (behind ≤ e.node) → in_between at behind e ≡ false
not_between at behind e out =
    elim out [
      | inl lt ↦ ap (λ b. b && nat_lt e.node behind) (lt-leb at e.node lt)
      | inr ge ↦ ap (λ b. nat_le at e.node && b) (le-ltb e.node behind ge) ∙ and-false (nat_le at e.node)
    ]

module _ (laid : Laid) (tree : Forest) (is : IsTree laid tree) (few : length laid.elements ≤ 4294967295) (at behind from stop : ℕ) (below : at < length laid.elements)
    (behind_is : behind ≡ at + size_at tree at) (first : ComeBefore laid at from) (last : ComeBefore laid behind stop) where
  count : length laid.elements ≡ size tree
  count = elements_are laid tree is

  out : (i : ℕ) → i < length laid.errors → ((error_in laid i).next ≤ at) ⊎ (behind < (error_in laid i).next) → in_between at behind (error_in laid i) ≡ false
  out i inside apart =
      let all = outside tree 4294967295 0 0 at 4294967295 (omega (arith, below, count)) (inr (omega arith)) (omega (arith, few, count)) in
      let here = All-same (λ e. IsOutside (0 + at) (0 + at + size_at tree at) e.node e.next) laid.errors (errors_of tree 4294967295 0 0) is.errors all i blank_error inside in
      not_between at behind (error_in laid i)
      (elim (here (elim apart [ inl early ↦ inl (omega (arith, early)) | inr late ↦ inr (omega (arith, late, behind_is)) ])) [
        | inl lt ↦ inl (omega (arith, lt))
        | inr ge ↦ inr (omega (arith, ge, behind_is))
      ])

  -- the others may be left out
  pub errors_inside : errors_between at behind (errors_left laid from stop) ≡ errors_between at behind (map (in_tree laid) laid.errors)
  errors_inside =
      let p = in_between at behind in
      let q : InTree TreeError → Bool = λ e. nat_le at e.it.node && nat_lt e.it.node behind in
      let rest = drop from laid.errors in
      filter-map (in_tree laid) q p (λ e. refl) (slice_range laid.errors from stop)
      ∙ (ap (map (in_tree laid))
      (filter-take p rest (stop - from) blank_error
      (λ i ge lt.
      let there : from + i < length laid.errors = omega (arith, lt, length-drop from laid.errors) in
      ap p (get_or-drop from laid.errors i blank_error) ∙ out (from + i) there (inr (last.behind (from + i) (omega (arith, ge)) there)))
      ∙ filter-drop p laid.errors from blank_error first.within (λ i lt. out i (omega (arith, lt, first.within)) (inl (first.before i lt))))
      ∙ sym (filter-map (in_tree laid) q p (λ e. refl) laid.errors))
