-- Lists split at an element, and items that give way to others there.
use Rattle.std.proofs.Common.{◌≡◌, ◌∙◌, ℕ, zero, suc, ◌+◌, ◌≤◌, ◌==◌, Bool, true, false, List, [], ◌∷◌, ◌++◌, cond, arith, ap, refl, subst, sym}
use Rattle.std.specs.Prelude.{All, Contains, count_by}
use Rattle.std.specs.List.{flat_map}
use Rattle.std.proofs.lemmas.Bool.{eqb-true}
use Rattle.std.proofs.lemmas.List.Sums.{sum_by-append}
use Rattle.std.proofs.lemmas.List.Elements.{All-cons, All-head, All-nil, All-tail, Contains-append_left, Contains-append_right}
use Rattle.std.proofs.lemmas.Grind.{flat_map-append}
use Rattle.squawk_output.specs.declared.log.Made.{Made}
use Rattle.squawk_output.specs.Draft.{Item, OpenMarker, Open, Close, Token, Error, Node, ids, ids_of, HasNoIdTwice}
use Rattle.squawk_output.specs.Edits.{is_open_marker_of, is_opening_of, moved, replaced, stands_before}
use Rattle.squawk_output.proofs.Groups.{itself}
use Rattle.squawk_output.proofs.Sums.{count_by-cons}

-- an element of a list, and what stands before and behind it
pub record Split {X : Type 0} (x : X) (xs : List X) : Type 0 where
  pub front : List X
  pub back : List X
  pub is : xs ≡ front ++ x ∷ back

module _ {X : Type 0} where
  pub split : (x : X) (xs : List X) → Contains xs x → Split x xs
  split x [] (k, lt, at) = absurd (omega arith)
  split x (y ∷ ys) (zero, lt, at) = record { front = []; back = ys; is = ap (λ z. z ∷ ys) at }
  split x (y ∷ ys) (suc k, lt, at) = let r = split x ys (k, omega arith, at) in record { front = y ∷ r.front; back = r.back; is = ap (λ zs. y ∷ zs) r.is }

  pub Contains-behind : (x : X) (xs ys : List X) → Contains (xs ++ x ∷ ys) x
  Contains-behind x [] ys = (0, omega arith, refl)
  Contains-behind x (y ∷ xs) ys = let r : Contains (xs ++ x ∷ ys) x = Contains-behind x xs ys in (suc r.0, omega (arith, r.1), r.2)

  -- an element that one of the elements gives
  pub Contains-flat_map : {Y : Type 0} (f : X → List Y) (y : Y) (x : X) (xs : List X) → Contains xs x → Contains (f x) y → Contains (flat_map f xs) y
  Contains-flat_map f y x [] (k, lt, at) gives = absurd (omega arith)
  Contains-flat_map f y x (z ∷ xs) (zero, lt, at) gives = Contains-append_left (f z) (flat_map f xs) y (subst (λ u. Contains (f u) y) (sym at) gives)
  Contains-flat_map f y x (z ∷ xs) (suc k, lt, at) gives = Contains-append_right (f z) (flat_map f xs) y (Contains-flat_map f y x xs (k, omega arith, at) gives)

  -- what holds of all elements holds of the first of them
  pub All-front : (P : X → Type 0) (xs ys : List X) → All P (xs ++ ys) → All P xs
  All-front P [] ys all = All-nil P
  All-front P (x ∷ xs) ys all = All-cons P x xs (All-head P x (xs ++ ys) all) (All-front P xs ys (All-tail P x (xs ++ ys) all))

  pub All-back : (P : X → Type 0) (xs ys : List X) → All P (xs ++ ys) → All P ys
  All-back P [] ys all = all
  All-back P (x ∷ xs) ys all = All-back P xs ys (All-tail P x (xs ++ ys) all)

  pub count_by-append : (p : X → Bool) (xs ys : List X) → count_by p (xs ++ ys) ≡ count_by p xs + count_by p ys
  count_by-append p xs ys = sum_by-append (λ x. cond (p x) 1 0) xs ys

  -- an element that passes the test is one more
  pub count_by-passes : (p : X → Bool) (x : X) (xs : List X) → p x ≡ true → count_by p (x ∷ xs) ≡ 1 + count_by p xs
  count_by-passes p x xs e = count_by-cons p x xs ∙ ap (λ b. cond b 1 0 + count_by p xs) e

  pub count_by-fails : (p : X → Bool) (x : X) (xs : List X) → p x ≡ false → count_by p (x ∷ xs) ≡ count_by p xs
  count_by-fails p x xs e = count_by-cons p x xs ∙ (ap (λ b. cond b 1 0 + count_by p xs) e ∙ omega arith)

  -- an element that passes the test doesn't stand where none does
  pub Contains-passed : (p : X → Bool) (x : X) (xs ys : List X) → p x ≡ true → count_by p xs ≡ 0 → Contains (xs ++ ys) x → Contains ys x
  Contains-passed p x [] ys passes none there = there
  Contains-passed p x (y ∷ xs) ys passes none (zero, lt, at) = absurd (omega (arith, none, count_by-passes p y xs (ap p at ∙ passes)))
  Contains-passed p x (y ∷ xs) ys passes none (suc k, lt, at) =
      Contains-passed p x xs ys passes (omega (arith, none, count_by-cons p y xs)) (k, omega arith, at)

module _ (p : Item → Bool) (f : Item → List Item) where
  pub replaced-append : (xs ys : List Item) → replaced p f (xs ++ ys) ≡ replaced p f xs ++ replaced p f ys
  replaced-append xs ys = flat_map-append _ xs ys

  pub replaced-none : (xs : List Item) → count_by p xs ≡ 0 → replaced p f xs ≡ xs
  replaced-none [] none = refl
  replaced-none (x ∷ xs) none = cases (p x) refl (replaced-none xs (omega (arith, none, count_by-cons p x xs)))
    where
      cases : (b : Bool) → p x ≡ b → replaced p f xs ≡ xs → replaced p f (x ∷ xs) ≡ x ∷ xs
      cases true e rest = absurd (omega (arith, none, count_by-passes p x xs e))
      cases false e rest = rw e (ap (λ zs. x ∷ zs) rest)

  pub here : (x : Item) (ys : List Item) → p x ≡ true → replaced p f (x ∷ ys) ≡ f x ++ replaced p f ys
  here x ys passes = rw passes refl

  -- where one item passes the test, the others stay
  pub replaced-at : (xs ys : List Item) (x : Item) → p x ≡ true → count_by p xs ≡ 0 → count_by p ys ≡ 0 → replaced p f (xs ++ x ∷ ys) ≡ xs ++ (f x ++ ys)
  replaced-at xs ys x passes front back =
      replaced-append xs (x ∷ ys)
      ∙ (ap (λ zs. zs ++ replaced p f (x ∷ ys)) (replaced-none xs front) ∙ ap (λ zs. xs ++ zs) (here x ys passes ∙ ap (λ zs. f x ++ zs) (replaced-none ys back)))

  -- so an edit of one item is a splice of the list there
  pub spliced : (x : Item) (items : List Item) → p x ≡ true → count_by p items ≤ 1 → Contains items x
      → (at : Split x items) × (replaced p f items ≡ at.front ++ (f x ++ at.back))
  spliced x items passes once there =
      let at = split x items there in
      let total = ap (count_by p) at.is in
      let front : count_by p at.front ≡ 0 = omega (arith, total, once, count_by-append p at.front (x ∷ at.back), count_by-passes p x at.back passes) in
      let back : count_by p at.back ≡ 0 = omega (arith, total, once, count_by-append p at.front (x ∷ at.back), count_by-passes p x at.back passes) in
      (at, ap (replaced p f) at.is ∙ replaced-at at.front at.back x passes front back)

-- an item that passes the first test, and before it none that passes the second
pub record First (p q : Item → Bool) (items : List Item) : Type 0 where
  pub front : List Item
  pub item : Item
  pub back : List Item
  pub is : items ≡ front ++ item ∷ back
  pub passes : p item ≡ true
  pub none : count_by q front ≡ 0

module _ (p q : Item → Bool) where
  further : (item : Item) (items : List Item) → q item ≡ false → First p q items → First p q (item ∷ items)
  further item items e r = record { front = item ∷ r.front; item = r.item; back = r.back; is = ap (λ zs. item ∷ zs) r.is; passes = r.passes; none = count_by-fails q item r.front e ∙ r.none }

  pub first : (items : List Item) → stands_before p q items ≡ true → First p q items
  first [] before = absurd (cc)
  first (item ∷ items) before = cases (p item) (q item) refl refl before (λ h. first items h)
    where
      cases : (b c : Bool) → p item ≡ b → q item ≡ c → cond b true (cond c false (stands_before p q items)) ≡ true
          → (stands_before p q items ≡ true → First p q items) → First p q (item ∷ items)
      cases true c e g before rest = record { front = []; item = item; back = items; is = refl; passes = e; none = refl }
      cases false true e g before rest = absurd (cc)
      cases false false e g before rest = further item items g (rest before)

-- ---- ids

-- what passes the test of an open marker is one
pub a_open_marker : (id : ℕ) (item : Item) → is_open_marker_of id item ≡ true → (made : Made) × (item ≡ OpenMarker id made)
a_open_marker id (OpenMarker i made) passes = (made, ap (λ n. OpenMarker n made) (eqb-true i id passes))
a_open_marker id (Open i kind free) passes = absurd (cc)
a_open_marker id Close passes = absurd (cc)
a_open_marker id (Token kind n) passes = absurd (cc)
a_open_marker id (Error text) passes = absurd (cc)

-- items that pass a test by their ids are no more than the id occurs
pub count-le_ids : (p : Item → Bool) (id : ℕ) → ((item : Item) → cond (p item) 1 0 ≤ count_by (λ i. i == id) (ids_of item)) → (items : List Item)
    → count_by p items ≤ count_by (λ i. i == id) (ids items)
count-le_ids p id each [] = omega arith
count-le_ids p id each (item ∷ items) =
    omega (arith, each item, count-le_ids p id each items, count_by-cons p item items, count_by-append (λ i. i == id) (ids_of item) (ids items))

pub open_marker_each : (id : ℕ) (item : Item) → cond (is_open_marker_of id item) 1 0 ≤ count_by (λ i. i == id) (ids_of item)
open_marker_each id (OpenMarker i made) = omega (arith, count_by-cons (λ i. i == id) i [])
open_marker_each id (Open i kind free) = omega arith
open_marker_each id Close = omega arith
open_marker_each id (Token kind n) = omega arith
open_marker_each id (Error text) = omega arith

opening_each : (id : ℕ) (item : Item) → cond (is_opening_of id item) 1 0 ≤ count_by (λ i. i == id) (ids_of item)
opening_each id (OpenMarker i made) = omega arith
opening_each id (Open i kind free) = omega (arith, count_by-cons (λ i. i == id) i [])
opening_each id Close = omega arith
opening_each id (Token kind n) = omega arith
opening_each id (Error text) = omega arith

-- an id that occurs once has one open marker at most, and one opening
pub open_markers-once : (id : ℕ) (items : List Item) → HasNoIdTwice items → count_by (is_open_marker_of id) items ≤ 1
open_markers-once id items once = omega (arith, once id, count-le_ids (is_open_marker_of id) id (open_marker_each id) items)

pub openings-once : (id : ℕ) (items : List Item) → HasNoIdTwice items → count_by (is_opening_of id) items ≤ 1
openings-once id items once = omega (arith, once id, count-le_ids (is_opening_of id) id (opening_each id) items)

-- the item of a marker gives way to other items
pub spliced-open_marker : (id : ℕ) (made : Made) (f : Item → List Item) (items : List Item) → HasNoIdTwice items → Contains items (OpenMarker id made)
    → (at : Split (OpenMarker id made) items) × (replaced (is_open_marker_of id) f items ≡ at.front ++ (f (OpenMarker id made) ++ at.back))
spliced-open_marker id made f items once there = spliced (is_open_marker_of id) f (OpenMarker id made) items (itself id) (open_markers-once id items once) there

-- and so does the opening of a node
pub spliced-opening : (id kind : ℕ) (f : Item → List Item) (items : List Item) → HasNoIdTwice items → Contains items (Open id kind true)
    → (at : Split (Open id kind true) items) × (replaced (is_opening_of id) f items ≡ at.front ++ (f (Open id kind true) ++ at.back))
spliced-opening id kind f items once there = spliced (is_opening_of id) f (Open id kind true) items (itself id) (openings-once id items once) there

-- a node's opening behind a marker's item, and the items when it moves there
pub record ExtendedAt (node : Node) (id : ℕ) (items : List Item) : Type 0 where
  pub made : Made
  pub front : List Item
  pub between : List Item
  pub back : List Item
  pub is : items ≡ front ++ OpenMarker id made ∷ (between ++ Open node.id node.kind true ∷ back)
  pub edit : moved node id items ≡ front ++ Open node.id node.kind true ∷ (between ++ back)

pub split-extended : (node : Node) (id : ℕ) (items : List Item) → HasNoIdTwice items → Contains items (Open node.id node.kind true)
    → stands_before (is_open_marker_of id) (is_opening_of node.id) items ≡ true → ExtendedAt node id items
split-extended node id items once there before =
    let p = is_open_marker_of id in
    let q = is_opening_of node.id in
    let opening = Open node.id node.kind true in
    let r = first p q items before in
    let open_marker = a_open_marker id r.item r.passes in
    let begins : items ≡ r.front ++ OpenMarker id open_marker.0 ∷ r.back = r.is ∙ ap (λ item. r.front ++ item ∷ r.back) open_marker.1 in
    let behind : Contains (OpenMarker id open_marker.0 ∷ r.back) opening =
    Contains-passed q opening r.front (OpenMarker id open_marker.0 ∷ r.back) (itself node.id) r.none (subst (λ is. Contains is opening) begins there) in
    let inside : Contains r.back opening = Contains-passed q opening (OpenMarker id open_marker.0 ∷ []) r.back (itself node.id) refl behind in
    let openings : count_by q items ≡ count_by q r.front + (count_by q (OpenMarker id open_marker.0 ∷ r.back)) = ap (count_by q) begins ∙ count_by-append q r.front (OpenMarker id open_marker.0 ∷ r.back) in
    let open_markers : count_by p items ≡ count_by p r.front + count_by p (OpenMarker id open_marker.0 ∷ r.back) = ap (count_by p) begins ∙ count_by-append p r.front (OpenMarker id open_marker.0 ∷ r.back) in
    let tail = count_by-passes p (OpenMarker id open_marker.0) r.back (itself id) in
    let one_open_marker = open_markers-once id items once in
    let splice = spliced q (λ item. []) opening r.back (itself node.id)
    (omega (arith, openings, openings-once node.id items once, count_by-fails q (OpenMarker id open_marker.0) r.back refl)) inside in
    let at = splice.0 in
    let taken : replaced q (λ item. []) items ≡ r.front ++ OpenMarker id open_marker.0 ∷ (at.front ++ at.back) =
    ap (replaced q (λ item. [])) begins
    ∙ (replaced-append q (λ item. []) r.front (OpenMarker id open_marker.0 ∷ r.back)
    ∙ (ap (λ zs. zs ++ OpenMarker id open_marker.0 ∷ replaced q (λ item. []) r.back) (replaced-none q (λ item. []) r.front r.none)
    ∙ ap (λ zs. r.front ++ OpenMarker id open_marker.0 ∷ zs) splice.1)) in
    let back_open_markers = ap (count_by p) at.is ∙ count_by-append p at.front (opening ∷ at.back) in
    let none_front : count_by p r.front ≡ 0 = omega (arith, open_markers, tail, one_open_marker) in
    let none_back : count_by p (at.front ++ at.back) ≡ 0 =
    omega (arith, open_markers, tail, one_open_marker, back_open_markers, count_by-fails p opening at.back refl, count_by-append p at.front at.back) in
    record {
      made = open_marker.0;
      front = r.front;
      between = at.front;
      back = at.back;
      is = begins ∙ ap (λ zs. r.front ++ OpenMarker id open_marker.0 ∷ zs) at.is;
      edit = ap (replaced p (λ item. opening ∷ [])) taken
          ∙ replaced-at p (λ item. opening ∷ []) r.front (at.front ++ at.back) (OpenMarker id open_marker.0) (itself id) none_front none_back;
    }
