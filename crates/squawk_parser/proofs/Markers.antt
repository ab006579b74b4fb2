-- What grammars may rely on: where markers' items and nodes' openings are after an act.
use Rattle.std.proofs.Common.{◌≡◌, ◌∙◌, ℕ, ◌==◌, Bool, true, false, Option, Some, None, List, [], ◌∷◌, ◌++◌, cond, arith, ap, sym, refl, subst}
use Rattle.std.specs.Prelude.{Contains, filter, not}
use Rattle.std.proofs.lemmas.List.Elements.{Contains-append_left, filter-append}
use Rattle.squawk_output.specs.Steps.{Step}
use Rattle.squawk_output.specs.Draft.{Draft, Item, OpenMarker, Open, Close, Token, Error, Mark, Node, HasNoIdTwice, open_markers_of, is_open_marker}
use Rattle.squawk_output.specs.declared.log.Made.{Made}
use Rattle.squawk_output.specs.declared.log.Made.TheVariants.{ByPrecede}
use Rattle.squawk_output.specs.Edits.{abandoned, completed, extended, extended_items, filled, is_open_marker_of, is_opening_of, moved, preceded, preceded_item, replaced, stands_before, without_open_marker}
use Rattle.squawk_parser.specs.Recorded.{Puts, items_for, preceding_mark}
use Rattle.squawk_parser.specs.State.{State, Changes, HasNotFailed, HasOpenMarker, HasNode, Records}
use Rattle.squawk_parser.specs.declared.parser.parse_error.ParseError.{ParseError}
use Rattle.squawk_parser.proofs.RecordedSteps.{went}
use Rattle.squawk_output.proofs.Groups.{itself}
use Rattle.squawk_parser.proofs.Splits.{Contains-behind, Contains-flat_map, spliced-opening}

-- ---- items

-- an item that gives way to another
Contains-replaced : (p : Item → Bool) (old new : Item) (items : List Item) → p old ≡ true → Contains items old → Contains (replaced p (λ item. new ∷ []) items) new
Contains-replaced p old new items passes there = Contains-flat_map _ new old items there (rw passes (0, omega arith, refl))

-- an item that doesn't stays
pub Contains-others : (p : Item → Bool) (f : Item → List Item) (item : Item) (items : List Item) → p item ≡ false → Contains items item → Contains (replaced p f items) item
Contains-others p f item items fails there = Contains-flat_map _ item item items there (rw fails (0, omega arith, refl))

-- ---- after acts at the end

-- a completed marker's opening is in the draft
pub node-completed : {s t : State} (m : Mark) (kind : ℕ) → HasOpenMarker s m → Records s t (completed s.draft m.id kind) → HasNode t (record { id = m.id; kind = kind })
node-completed {s} {t} m kind there records goes =
    let opening = Open m.id kind true in
    let inner : Contains (filled s.draft.items m.id kind) opening =
    Contains-replaced (is_open_marker_of m.id) (OpenMarker m.id m.made) opening s.draft.items (itself m.id) (there (records.went goes)) in
    subst (λ draft. Contains draft.items opening) (sym (records.draft goes)) (Contains-append_left (filled s.draft.items m.id kind) (Close ∷ []) opening inner)

-- steps that are put at the end leave a marker's item
pub open_marker-put : {s t : State} {steps : List Step} (m : Mark) → HasOpenMarker s m → Puts steps s t → HasOpenMarker t m
open_marker-put {s} {t} {steps} m there puts goes =
    let open_marker = OpenMarker m.id m.made in
    subst (λ draft. Contains draft.items open_marker) (sym (puts.draft goes))
    (Contains-append_left s.draft.items (items_for s.draft.entries steps) open_marker (there (went puts.keeps goes)))

-- and a node's opening
pub node-put : {s t : State} {steps : List Step} (node : Node) → HasNode s node → Puts steps s t → HasNode t node
node-put {s} {t} {steps} node there puts goes =
    let opening = Open node.id node.kind true in
    subst (λ draft. Contains draft.items opening) (sym (puts.draft goes))
    (Contains-append_left s.draft.items (items_for s.draft.entries steps) opening (there (went puts.keeps goes)))

-- ---- a node that is preceded

-- the marker's item is in the draft
pub open_marker-preceded : {s t : State} (node : Node) → HasNoIdTwice s.draft.items → HasNode s node → Records s t (preceded s.draft node.id) → HasOpenMarker t (preceding_mark s)
open_marker-preceded {s} {t} node once there records goes =
    let open_marker = OpenMarker s.draft.entries ByPrecede in
    let at = spliced-opening node.id node.kind (λ item. open_marker ∷ preceded_item item ∷ []) s.draft.items once (there (records.went goes)) in
    subst (λ draft. Contains draft.items open_marker) (sym (records.draft goes))
    (subst (λ items. Contains items open_marker) (sym at.1) (Contains-behind open_marker at.0.front (Open node.id node.kind false ∷ at.0.back)))

-- a list with one element more
pub record HasOneMore {X : Type 0} (x : X) (old new : List X) : Type 0 where
  pub front : List X
  pub back : List X
  pub was : old ≡ front ++ back
  pub is : new ≡ front ++ x ∷ back

-- and the other open markers stay as they were
pub open_markers-preceded : {s t : State} (node : Node) → HasNoIdTwice s.draft.items → HasNode s node → Records s t (preceded s.draft node.id) → HasNotFailed t
    → HasOneMore (OpenMarker s.draft.entries ByPrecede) (open_markers_of s.draft.items) (open_markers_of t.draft.items)
open_markers-preceded {s} {t} node once there records goes =
    let open_marker = OpenMarker s.draft.entries ByPrecede in
    let at = spliced-opening node.id node.kind (λ item. open_marker ∷ preceded_item item ∷ []) s.draft.items once (there (records.went goes)) in
    let xs = at.0.front in
    let ys = at.0.back in
    record {
      front = open_markers_of xs;
      back = open_markers_of ys;
      was = ap open_markers_of at.0.is ∙ filter-append is_open_marker xs (Open node.id node.kind true ∷ ys);
      is = ap (λ draft. open_markers_of draft.items) (records.draft goes) ∙ (ap open_markers_of at.1 ∙ filter-append is_open_marker xs (open_marker ∷ Open node.id node.kind false ∷ ys));
    }

-- ---- a marker that is abandoned, or that a node is extended to

-- a list of open markers without that of a marker
abbrev pub without : ℕ → List Item → List Item
without id items = filter (λ item. not (is_open_marker_of id item)) items

-- a parser that goes on after a change went on before
pub went-changed : {s t : State} {draft : Draft} → Changes s t draft → HasNotFailed t → HasNotFailed s
went-changed {s} {t} {draft} changes goes = cases s.first_reason refl
  where
    cases : (f : Option ParseError) → s.first_reason ≡ f → s.first_reason ≡ None
    cases None e = e
    cases (Some reason) e =
        let same : t.first_reason ≡ s.first_reason = ap (λ u. u.first_reason) (changes.stays (rw e refl)) in absurd (let p = sym goes ∙ (same ∙ e) in cc)

pub changed : {s t : State} {draft : Draft} → Changes s t draft → HasNotFailed t → t.draft ≡ draft
changed changes goes = ap (λ u. u.draft) (changes.goes (went-changed changes goes))

module _ (id : ℕ) (f : Item → List Item) (closed : (item : Item) → open_markers_of (f item) ≡ []) where
  open_markers_cases : (i : ℕ) (made : Made) (rest left : List Item) (b : Bool) → open_markers_of rest ≡ left
      → open_markers_of (cond b (f (OpenMarker i made)) (OpenMarker i made ∷ []) ++ rest) ≡ cond (not b) (OpenMarker i made ∷ left) left
  open_markers_cases i made rest left true e =
      filter-append is_open_marker (f (OpenMarker i made)) rest ∙ (ap (λ items. items ++ open_markers_of rest) (closed (OpenMarker i made)) ∙ e)
  open_markers_cases i made rest left false e = ap (λ items. OpenMarker i made ∷ items) e

  pub open_markers-replaced : (items : List Item) → open_markers_of (replaced (is_open_marker_of id) f items) ≡ without id (open_markers_of items)
  open_markers-replaced [] = refl
  open_markers-replaced (OpenMarker i made ∷ items) =
      open_markers_cases i made (replaced (is_open_marker_of id) f items) (without id (open_markers_of items)) (i == id) (open_markers-replaced items)
  open_markers-replaced (Open i kind free ∷ items) = open_markers-replaced items
  open_markers-replaced (Close ∷ items) = open_markers-replaced items
  open_markers-replaced (Token kind n ∷ items) = open_markers-replaced items
  open_markers-replaced (Error text ∷ items) = open_markers-replaced items

no_opening_cases : (i kind : ℕ) (free : Bool) (rest : List Item) (b : Bool) → open_markers_of (cond b [] (Open i kind free ∷ []) ++ rest) ≡ open_markers_of rest
no_opening_cases i kind free rest true = refl
no_opening_cases i kind free rest false = refl

open_markers-without_opening : (id : ℕ) (items : List Item) → open_markers_of (replaced (is_opening_of id) (λ item. []) items) ≡ open_markers_of items
open_markers-without_opening id [] = refl
open_markers-without_opening id (OpenMarker i made ∷ items) = ap (λ items. OpenMarker i made ∷ items) (open_markers-without_opening id items)
open_markers-without_opening id (Open i kind free ∷ items) =
    no_opening_cases i kind free (replaced (is_opening_of id) (λ item. []) items) (i == id) ∙ open_markers-without_opening id items
open_markers-without_opening id (Close ∷ items) = open_markers-without_opening id items
open_markers-without_opening id (Token kind n ∷ items) = open_markers-without_opening id items
open_markers-without_opening id (Error text ∷ items) = open_markers-without_opening id items

open_markers-extended_items : (node : Node) (id : ℕ) (items : List Item) → open_markers_of (extended_items node id items) ≡ without id (open_markers_of items)
open_markers-extended_items node id items = cases (stands_before (is_open_marker_of id) (is_opening_of node.id) items)
  where
    cases : (b : Bool) → open_markers_of (cond b (moved node id items) (without_open_marker id items)) ≡ without id (open_markers_of items)
    cases true =
        open_markers-replaced id (λ item. Open node.id node.kind true ∷ []) (λ item. refl) (replaced (is_opening_of node.id) (λ item. []) items)
        ∙ ap (without id) (open_markers-without_opening node.id items)
    cases false = open_markers-replaced id (λ item. []) (λ item. refl) items

-- an abandoned marker's item is gone, and the other open markers stay as they were
pub open_markers-abandoned : {s t : State} (id : ℕ) → Changes s t (abandoned s.draft id) → HasNotFailed t → open_markers_of t.draft.items ≡ without id (open_markers_of s.draft.items)
open_markers-abandoned {s} {t} id changes goes =
    ap (λ draft. open_markers_of draft.items) (changed changes goes) ∙ open_markers-replaced id (λ item. []) (λ item. refl) s.draft.items

-- so it is with the marker that a node is extended to
pub open_markers-extended : {s t : State} (node : Node) (id : ℕ) → Changes s t (extended s.draft node id) → HasNotFailed t
    → open_markers_of t.draft.items ≡ without id (open_markers_of s.draft.items)
open_markers-extended {s} {t} node id changes goes =
    ap (λ draft. open_markers_of draft.items) (changed changes goes) ∙ open_markers-extended_items node id s.draft.items

-- the node's opening is in the draft still, so that it can be extended again or preceded
pub node-extended : {s t : State} (node : Node) (m : Mark) → HasNode s node → HasOpenMarker s m → Changes s t (extended s.draft node m.id) → HasNode t node
node-extended {s} {t} node m there open_marker changes goes =
    subst (λ draft. Contains draft.items opening) (sym (changed changes goes)) (cases (stands_before (is_open_marker_of m.id) (is_opening_of node.id) items))
  where
    items : List Item
    items = s.draft.items

    opening : Item
    opening = Open node.id node.kind true

    before : HasNotFailed s
    before = went-changed changes goes

    cases : (b : Bool) → Contains (cond b (moved node m.id items) (without_open_marker m.id items)) opening
    cases true =
        Contains-replaced (is_open_marker_of m.id) (OpenMarker m.id m.made) opening (replaced (is_opening_of node.id) (λ item. []) items) (itself m.id)
        (Contains-others (is_opening_of node.id) (λ item. []) (OpenMarker m.id m.made) items refl (open_marker before))
    cases false = Contains-others (is_open_marker_of m.id) (λ item. []) opening items refl (there before)
