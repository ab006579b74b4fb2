-- The open markers of a draft, over the calls of a grammar.
use Rattle.std.proofs.Common.{◌≡◌, ◌∙◌, ℕ, ◌<◌, Bool, true, false, not, cond, List, [], ◌∷◌, ◌++◌, arith, ap, sym, refl, subst}
use Rattle.std.specs.Prelude.{All, Contains, IsTrue, filter}
use Rattle.std.proofs.lemmas.Bool.{eq-eqb, ne_eqb}
use Rattle.std.proofs.lemmas.List.{append-nil}
use Rattle.std.proofs.lemmas.List.Elements.{All-nil, All-cons, All-head, All-tail, All-filter, All-contains, All-contains_itself, All-weaker, Contains-push, filter-append}
use Rattle.squawk_output.specs.Draft.{Item, OpenMarker, Open, Close, Token, Error, Mark, is_open_marker, ids, ids_of, open_markers_of, HasNoOpenMarker, IsAboveIds}
use Rattle.squawk_output.specs.declared.log.Made.{Made}
use Rattle.squawk_output.specs.declared.log.Made.TheVariants.{ByStart}
use Rattle.squawk_output.specs.Edits.{started, completed, filled, is_open_marker_of}
use Rattle.squawk_parser.specs.Eaten.{EatsWith}
use Rattle.squawk_parser.specs.Recorded.{Begins, Completes, Puts, items_for}
use Rattle.squawk_parser.specs.State.{State, HasOpenMarker, HasNotFailed, Keeps, Records, IsFresh}
use Rattle.squawk_output.specs.Steps.{Step}
use Rattle.squawk_parser.proofs.Markers.{open_markers-replaced, without}
use Rattle.squawk_parser.proofs.RecordedSteps.{Keeps-then, went}
use Rattle.squawk_parser.proofs.Splits.{All-back, All-front}
use Rattle.squawk_parser.proofs.StepsAtEnd.{closed-items_for}

-- a parser that goes on has these open markers
abbrev pub HasOpenMarkers : State → List Item → Type 0
HasOpenMarkers s open_ones = HasNotFailed s → open_markers_of s.draft.items ≡ open_ones

-- ---- no open marker

module _ {X : Type 0} (p : X → Bool) where
  filtered-none : (xs : List X) → All (λ x. p x ≡ false) xs → filter p xs ≡ []
  filtered-none [] none = refl
  filtered-none (x ∷ xs) none = rw (All-head (λ x. p x ≡ false) x xs none) (filtered-none xs (All-tail (λ x. p x ≡ false) x xs none))

  none-filtered : (xs : List X) → filter p xs ≡ [] → All (λ x. p x ≡ false) xs
  none-filtered [] e = All-nil (λ x. p x ≡ false)
  none-filtered (x ∷ xs) e = cases (p x) refl e (none-filtered xs)
    where
      cases : (b : Bool) → p x ≡ b → cond b (x ∷ filter p xs) (filter p xs) ≡ [] → (filter p xs ≡ [] → All (λ x. p x ≡ false) xs) → All (λ x. p x ≡ false) (x ∷ xs)
      cases true is e rest = absurd (cc)
      cases false is e rest = All-cons (λ x. p x ≡ false) x xs is (rest e)

  pub filtered-all : (xs : List X) → All (λ x. p x ≡ true) xs → filter p xs ≡ xs
  filtered-all [] all = refl
  filtered-all (x ∷ xs) all = rw (All-head (λ x. p x ≡ true) x xs all) (ap (λ ys. x ∷ ys) (filtered-all xs (All-tail (λ x. p x ≡ true) x xs all)))

pub none_open : (items : List Item) → HasNoOpenMarker items → open_markers_of items ≡ []
none_open items none = filtered-none is_open_marker items none

pub HasNoOpenMarker-none_open : (items : List Item) → open_markers_of items ≡ [] → HasNoOpenMarker items
HasNoOpenMarker-none_open items e = none-filtered is_open_marker items e

-- ---- one open marker among them

pub Contains-open_marker : (items open_ones : List Item) (open_marker : Item) → open_markers_of items ≡ open_ones → Contains open_ones open_marker → Contains items open_marker
Contains-open_marker items open_ones open_marker e there =
    let P : List Item → Type 0 = λ hs. Contains hs open_marker in
    All-contains (Contains items) (open_markers_of items) open_marker (All-filter is_open_marker (Contains items) items (All-contains_itself items)) (subst P (sym e) there)

-- an item's id is below one that is above all ids
each_below : (id : ℕ) (items : List Item) → IsAboveIds id items → All (λ item. All (λ i. i < id) (ids_of item)) items
each_below id [] above = All-nil (λ item. All (λ i. i < id) (ids_of item))
each_below id (item ∷ items) above =
    All-cons (λ item. All (λ i. i < id) (ids_of item)) item items (All-front (λ i. i < id) (ids_of item) (ids items) above)
    (each_below id items (All-back (λ i. i < id) (ids_of item) (ids items) above))

pub below-open_marker : (items open_ones : List Item) (id other : ℕ) (made : Made) → IsAboveIds id items → open_markers_of items ≡ open_ones
    → Contains open_ones (OpenMarker other made) → other < id
below-open_marker items open_ones id other made above e there =
    All-head (λ i. i < id) other [] (All-contains (λ item. All (λ i. i < id) (ids_of item)) items (OpenMarker other made) (each_below id items above)
    (Contains-open_marker items open_ones (OpenMarker other made) e there))

-- ---- the calls

pub HasOpenMarkers-fresh : (s : State) → IsFresh s → HasOpenMarkers s []
HasOpenMarkers-fresh s fresh goes = ap (λ t. open_markers_of t.draft.items) fresh

pub HasOpenMarkers-start : (s t : State) (open_ones : List Item) → HasOpenMarkers s open_ones → Records s t (started s.draft)
    → HasOpenMarkers t (open_ones ++ OpenMarker s.draft.entries ByStart ∷ [])
HasOpenMarkers-start s t open_ones has records goes =
    ap (λ d. open_markers_of d.items) (records.draft goes)
    ∙ (filter-append is_open_marker s.draft.items (OpenMarker s.draft.entries ByStart ∷ [])
    ∙ ap (λ hs. hs ++ OpenMarker s.draft.entries ByStart ∷ []) (has (records.went goes)))

pub HasOpenMarkers-complete : (s t : State) (id kind : ℕ) (open_ones : List Item) → HasOpenMarkers s open_ones → Records s t (completed s.draft id kind)
    → HasOpenMarkers t (without id open_ones)
HasOpenMarkers-complete s t id kind open_ones has records goes =
    ap (λ d. open_markers_of d.items) (records.draft goes)
    ∙ (filter-append is_open_marker (filled s.draft.items id kind) (Close ∷ [])
    ∙ (append-nil (open_markers_of (filled s.draft.items id kind))
    ∙ (open_markers-replaced id (λ item. Open id kind true ∷ []) (λ item. refl) s.draft.items ∙ ap (without id) (has (records.went goes)))))

-- calls that close what they open
pub HasOpenMarkers-closed : (s t : State) → HasOpenMarkers s [] → (HasNotFailed t → HasNotFailed s) → (HasNoOpenMarker s.draft.items → HasNotFailed t → HasNoOpenMarker t.draft.items) → HasOpenMarkers t []
HasOpenMarkers-closed s t has went closed goes =
    none_open t.draft.items (closed (HasNoOpenMarker-none_open s.draft.items (has (went goes))) goes)

-- the last open marker
pub without-one : (id : ℕ) (made : Made) → without id (OpenMarker id made ∷ []) ≡ []
without-one id made = rw (eq-eqb id id refl) refl

-- a part leaves open what it found open
pub HasOpenMarkers-part : (s t : State) (open_ones : List Item) → HasOpenMarkers s open_ones → (HasNotFailed t → HasNotFailed s) → (HasNotFailed t → open_markers_of t.draft.items ≡ open_markers_of s.draft.items)
    → HasOpenMarkers t open_ones
HasOpenMarkers-part s t open_ones has went same goes = same goes ∙ has (went goes)

-- ---- steps at the end, and a node around calls

-- steps that are put at the end open no marker and close none
pub open_markers-puts : (s t : State) (steps : List Step) → Puts steps s t → HasNotFailed t → open_markers_of t.draft.items ≡ open_markers_of s.draft.items
open_markers-puts s t steps puts goes =
    let made = items_for s.draft.entries steps in
    ap (λ d. open_markers_of d.items) (puts.draft goes)
    ∙ (filter-append is_open_marker s.draft.items made
    ∙ (ap (λ hs. open_markers_of s.draft.items ++ hs) (none_open made (closed-items_for s.draft.entries steps)) ∙ append-nil (open_markers_of s.draft.items)))

pub HasOpenMarkers-puts : {s t : State} {steps : List Step} (open_ones : List Item) → HasOpenMarkers s open_ones → Puts steps s t → HasOpenMarkers t open_ones
HasOpenMarkers-puts {s} {t} {steps} open_ones has puts goes = open_markers-puts s t steps puts goes ∙ has (went puts.keeps goes)

-- so no item has the open marker of that id
pub is_other : (id : ℕ) (items : List Item) → IsAboveIds id items → All (λ item. not (is_open_marker_of id item) ≡ true) items
is_other id items above = All-weaker (λ item. All (λ i. i < id) (ids_of item)) (λ item. not (is_open_marker_of id item) ≡ true) each items (each_below id items above)
  where
    each : (item : Item) → All (λ i. i < id) (ids_of item) → not (is_open_marker_of id item) ≡ true
    each (OpenMarker i made) below = ap not (ne_eqb i id (λ e. omega (arith, e, All-head (λ i. i < id) i [] below)))
    each (Open i kind free) below = refl
    each Close below = refl
    each (Token kind n) below = refl
    each (Error text) below = refl

-- a new marker is none of those before it
pub without-below : (id : ℕ) (items : List Item) → IsAboveIds id items → without id (open_markers_of items) ≡ open_markers_of items
without-below id items above =
    filtered-all (λ item. not (is_open_marker_of id item)) (open_markers_of items) (All-filter is_open_marker (λ item. not (is_open_marker_of id item) ≡ true) items (is_other id items above))

pub without-last : (id : ℕ) (made : Made) (items : List Item) → IsAboveIds id items → without id (open_markers_of items ++ OpenMarker id made ∷ []) ≡ open_markers_of items
without-last id made items above =
    filter-append (λ item. not (is_open_marker_of id item)) (open_markers_of items) (OpenMarker id made ∷ [])
    ∙ (ap (λ hs. without id (open_markers_of items) ++ hs) (without-one id made)
    ∙ (append-nil (without id (open_markers_of items)) ∙ without-below id items above))

module _ {s t u : State} {m : Mark} (begins : Begins m s t) (keeps : Keeps t u) (same : HasNotFailed u → open_markers_of u.draft.items ≡ open_markers_of t.draft.items) where
  -- the marker of a node is open behind what stands in it
  pub open_inside : HasOpenMarkers u (open_markers_of s.draft.items ++ OpenMarker s.draft.entries ByStart ∷ [])
  open_inside goes = same goes ∙ HasOpenMarkers-start s t (open_markers_of s.draft.items) (λ _. refl) begins.records (went keeps goes)

  pub marker_inside : HasOpenMarker u m
  marker_inside goes =
      let open_marker = OpenMarker s.draft.entries ByStart in
      rw begins.is (Contains-open_marker u.draft.items _ open_marker (open_inside goes) (Contains-push (open_markers_of s.draft.items) open_marker))

  -- and the node leaves the markers as they were
  pub open_markers-around : {v : State} {kind : ℕ} → Completes m.id kind u v → HasNotFailed v → open_markers_of v.draft.items ≡ open_markers_of s.draft.items
  open_markers-around {v} {kind} ends goes =
      HasOpenMarkers-complete u v m.id kind _ open_inside ends.records goes
      ∙ (ap (λ m. without m.id (open_markers_of s.draft.items ++ OpenMarker s.draft.entries ByStart ∷ [])) begins.is
      ∙ without-last s.draft.entries ByStart s.draft.items begins.sound.logged.below)

-- ---- a kind, where it stands and where it doesn't

pub open_markers-eat : (s t : State) (b : Bool) (steps : List Step) → (IsTrue b → Puts steps s t) → (IsTrue (not b) → t ≡ s) → HasNotFailed t
    → open_markers_of t.draft.items ≡ open_markers_of s.draft.items
open_markers-eat s t true steps puts none goes = open_markers-puts s t steps (puts refl) goes
open_markers-eat s t false steps puts none goes = ap (λ u. open_markers_of u.draft.items) (none refl)

open_markers-with : (does : State → State → Type 0) (kind : ℕ) (s t : State) → EatsWith does kind s t → HasNotFailed t → open_markers_of t.draft.items ≡ open_markers_of s.draft.items
open_markers-with does kind s t e goes =
    let begun = e.between in
    let eaten = e.goes_on.between in
    let ran = e.goes_on.goes_on.between in
    let closed = e.goes_on.goes_on.goes_on.between in
    let elements = e.goes_on.does_so in
    let tail = e.goes_on.goes_on.does_so in
    let closing = e.goes_on.goes_on.goes_on.does_so in
    let same : HasNotFailed closed → open_markers_of closed.draft.items ≡ open_markers_of begun.draft.items =
    λ goes_closed.
    let goes_ran = went closing.keeps goes_closed in
    let goes_eaten = went tail.keeps goes_ran in
    open_markers-puts ran closed _ closing goes_closed ∙ (tail.open_markers goes_ran ∙ open_markers-puts begun eaten _ elements goes_eaten) in
    open_markers-around e.does_so (Keeps-then elements.keeps (Keeps-then tail.keeps closing.keeps)) same e.goes_on.goes_on.goes_on.goes_on goes

pub open_markers-eat_with : (does : State → State → Type 0) (kind : ℕ) (s t : State) (b : Bool) → (IsTrue b → EatsWith does kind s t) → (IsTrue (not b) → t ≡ s) → HasNotFailed t
    → open_markers_of t.draft.items ≡ open_markers_of s.draft.items
open_markers-eat_with does kind s t true eats none goes = open_markers-with does kind s t (eats refl) goes
open_markers-eat_with does kind s t false eats none goes = ap (λ u. open_markers_of u.draft.items) (none refl)
