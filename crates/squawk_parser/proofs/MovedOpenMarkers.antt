-- The open markers of a draft, where markers move.
use Rattle.std.proofs.Common.{◌≡◌, ◌∙◌, ℕ, ◌<◌, true, not, List, [], ◌∷◌, ◌++◌, arith, ap, refl, subst, sym}
use Rattle.std.specs.Prelude.{All, Contains, filter}
use Rattle.std.proofs.lemmas.List.Elements.{All-filter, Contains-push, filter-append}
use Rattle.squawk_output.specs.Draft.{Item, OpenMarker, Mark, Node, open_markers_of, is_open_marker, IsAboveIds}
use Rattle.squawk_output.specs.declared.log.Made.TheVariants.{ByStart, ByPrecede}
use Rattle.squawk_output.specs.Edits.{abandoned, extended, is_open_marker_of}
use Rattle.squawk_output.proofs.Groups.{itself}
use Rattle.squawk_parser.specs.Recorded.{Begins, Completes, Precedes, started_mark}
use Rattle.squawk_parser.specs.State.{State, HasOpenMarker, HasNode, HasNotFailed, Keeps, Changes}
use Rattle.squawk_parser.proofs.OpenMarkers.{HasOpenMarkers, HasOpenMarkers-complete, Contains-open_marker, below-open_marker, filtered-all, is_other, without-last, open_inside, open_markers-around}
use Rattle.squawk_parser.proofs.Markers.{HasOneMore, open_markers-abandoned, open_markers-extended, open_markers-preceded, went-changed, without}
use Rattle.squawk_parser.proofs.RecordedSteps.{went}
use Rattle.squawk_parser.proofs.Splits.{Contains-behind}

-- an abandoned marker is open no more
pub HasOpenMarkers-abandon : (s t : State) (id : ℕ) (open_ones : List Item) → HasOpenMarkers s open_ones → Changes s t (abandoned s.draft id) → HasOpenMarkers t (without id open_ones)
HasOpenMarkers-abandon s t id open_ones has changes goes = open_markers-abandoned id changes goes ∙ ap (without id) (has (went-changed changes goes))

-- and so is one to which a node is extended
pub HasOpenMarkers-extend : (s t : State) (node : Node) (id : ℕ) (open_ones : List Item) → HasOpenMarkers s open_ones → Changes s t (extended s.draft node id)
    → HasOpenMarkers t (without id open_ones)
HasOpenMarkers-extend s t node id open_ones has changes goes = open_markers-extended node id changes goes ∙ ap (without id) (has (went-changed changes goes))

-- a new marker is none of those before it
without-new_one : (s : State) (m : Mark) → m ≡ started_mark s → IsAboveIds s.draft.entries s.draft.items
    → without m.id (open_markers_of s.draft.items ++ OpenMarker s.draft.entries ByStart ∷ []) ≡ open_markers_of s.draft.items
without-new_one s m is above =
    ap (λ m. without m.id (open_markers_of s.draft.items ++ OpenMarker s.draft.entries ByStart ∷ [])) is ∙ without-last s.draft.entries ByStart s.draft.items above

-- one open marker more among others goes where those of its id do
without-more : {open_marker : Item} {old new : List Item} (id : ℕ) → is_open_marker_of id open_marker ≡ true → All (λ item. not (is_open_marker_of id item) ≡ true) old → HasOneMore open_marker old new
    → without id new ≡ old
without-more {open_marker} {old} {new} id is others more =
    let p = λ (item : Item). not (is_open_marker_of id item) in
    let gone : filter p (open_marker ∷ more.back) ≡ filter p more.back = rw is refl in
    ap (without id) more.is
    ∙ (filter-append p more.front (open_marker ∷ more.back)
    ∙ (ap (λ items. filter p more.front ++ items) gone
    ∙ (sym (filter-append p more.front more.back) ∙ (ap (without id) (sym more.was) ∙ filtered-all p old others))))

module _ {s t : State} {node : Node} {m : Mark} (there : HasNode s node) (precedes : Precedes node m s t) where
  abbrev open_marker : Item
  open_marker = OpenMarker s.draft.entries ByPrecede

  -- a marker in front of a node is open
  one_more : HasNotFailed t → HasOneMore open_marker (open_markers_of s.draft.items) (open_markers_of t.draft.items)
  one_more = open_markers-preceded node precedes.sound.logged.once there precedes.records

  -- also behind calls that leave open what they found
  pub marker_kept : {u : State} → Keeps t u → (HasNotFailed u → open_markers_of u.draft.items ≡ open_markers_of t.draft.items) → HasOpenMarker u m
  marker_kept {u} keeps same goes =
      let more = one_more (went keeps goes) in
      rw precedes.is (Contains-open_marker u.draft.items (more.front ++ open_marker ∷ more.back) open_marker (same goes ∙ more.is) (Contains-behind open_marker more.front more.back))

  -- but for the marker, the others are those of before
  without_new : HasNotFailed t → without m.id (open_markers_of t.draft.items) ≡ open_markers_of s.draft.items
  without_new goes =
      let id = s.draft.entries in
      let others = All-filter is_open_marker (λ item. not (is_open_marker_of id item) ≡ true) s.draft.items (is_other id s.draft.items precedes.sound.logged.below) in
      rw precedes.is (without-more id (itself id) others (one_more goes))

  -- a node that it becomes leaves the markers as they were
  pub open_markers-outer : {u v : State} {outer : ℕ} → Keeps t u → (HasNotFailed u → open_markers_of u.draft.items ≡ open_markers_of t.draft.items) → Completes m.id outer u v → HasNotFailed v
      → open_markers_of v.draft.items ≡ open_markers_of s.draft.items
  open_markers-outer {u} {v} {outer} keeps same ends goes =
      HasOpenMarkers-complete u v m.id outer (open_markers_of t.draft.items) same ends.records goes ∙ without_new (went keeps (went ends.keeps goes))

  -- and so does giving it up
  pub open_markers-in_vain : {u : State} → Changes t u (abandoned t.draft m.id) → HasNotFailed u → open_markers_of u.draft.items ≡ open_markers_of s.draft.items
  open_markers-in_vain {u} changes goes = HasOpenMarkers-abandon t u m.id (open_markers_of t.draft.items) (λ _. refl) changes goes ∙ without_new (went-changed changes goes)

-- a marker that is given up leaves the others as they were
pub open_markers-given_up : {s t u v : State} {m : Mark} → Begins m s t → Keeps t u → (HasNotFailed u → open_markers_of u.draft.items ≡ open_markers_of t.draft.items)
    → Changes u v (abandoned u.draft m.id) → HasNotFailed v → open_markers_of v.draft.items ≡ open_markers_of s.draft.items
open_markers-given_up {s} {t} {u} {v} {m} begins keeps same changes goes =
    HasOpenMarkers-abandon u v m.id _ (open_inside begins keeps same) changes goes ∙ without-new_one s m begins.is begins.sound.logged.below

-- A marker, calls behind it, and a node behind them that is extended to the marker.
module _ {s t u v w x : State} {m n : Mark} {kind : ℕ} (begins : Begins m s t) (keeps : Keeps t u) (same : HasNotFailed u → open_markers_of u.draft.items ≡ open_markers_of t.draft.items)
    (node_begins : Begins n u v) (node_keeps : Keeps v w) (node_same : HasNotFailed w → open_markers_of w.draft.items ≡ open_markers_of v.draft.items) (ends : Completes n.id kind w x) where
  abbrev started_open_marker : Item
  started_open_marker = OpenMarker s.draft.entries ByStart

  goes_before : HasNotFailed x → HasNotFailed u
  goes_before goes = went node_begins.keeps (went node_keeps (went ends.keeps goes))

  open_still : HasOpenMarkers x (open_markers_of s.draft.items ++ started_open_marker ∷ [])
  open_still goes = open_markers-around node_begins node_keeps node_same ends goes ∙ open_inside begins keeps same (goes_before goes)

  pub marker_still : HasOpenMarker x m
  marker_still goes =
      subst (λ (m : Mark). Contains x.draft.items (OpenMarker m.id m.made)) (sym begins.is)
      (Contains-open_marker x.draft.items _ started_open_marker (open_still goes) (Contains-push (open_markers_of s.draft.items) started_open_marker))

  pub is_older : HasNotFailed x → m.id < n.id
  is_older goes =
      let older : s.draft.entries < u.draft.entries =
      below-open_marker u.draft.items _ u.draft.entries s.draft.entries ByStart node_begins.sound.logged.below (open_inside begins keeps same (goes_before goes))
      (Contains-push (open_markers_of s.draft.items) started_open_marker) in
      omega (arith, ap (λ m. m.id) begins.is, ap (λ m. m.id) node_begins.is, older)

  pub open_markers-moved : {y : State} → Changes x y (extended x.draft (record { id = n.id; kind = kind }) m.id) → HasNotFailed y → open_markers_of y.draft.items ≡ open_markers_of s.draft.items
  open_markers-moved {y} changes goes = HasOpenMarkers-extend x y _ m.id _ open_still changes goes ∙ without-new_one s m begins.is begins.sound.logged.below
