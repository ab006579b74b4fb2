-- A marker's item stays where a tail is run.
use Rattle.std.proofs.Common.{◌≡◌, ◌∙◌, zero, suc, Bool, true, false, List, [], ◌∷◌, cond, arith, ap, sym, refl, subst}
use Rattle.std.specs.Prelude.{Contains, filter}
use Rattle.std.proofs.lemmas.List.Elements.{Contains-append_left}
use Rattle.squawk_output.specs.Steps.{Step}
use Rattle.squawk_output.specs.Draft.{OpenMarker, Item, Mark, open_markers_of, is_open_marker}
use Rattle.squawk_parser.specs.Recorded.{Puts, items_for}
use Rattle.squawk_parser.specs.State.{State, HasNotFailed, HasOpenMarker, Keeps}
use Rattle.squawk_parser.proofs.RecordedSteps.{went}

module _ {X : Type 0} (x : X) where
  Contains-head : (y : X) (ys : List X) → y ≡ x → Contains (y ∷ ys) x
  Contains-head y ys is = (0, omega arith, is)

  Contains-tail : (y : X) (ys : List X) → Contains ys x → Contains (y ∷ ys) x
  Contains-tail y ys (k, lt, at) = (suc k, omega arith, at)

module _ {X : Type 0} (p : X → Bool) (x : X) where
  -- what passes a test is among those that do
  Contains-filter : (xs : List X) → p x ≡ true → Contains xs x → Contains (filter p xs) x
  Contains-filter [] yes_p (k, lt, at) = absurd (omega arith)
  Contains-filter (y ∷ ys) yes_p (zero, lt, at) =
      subst (λ b. Contains (cond b (y ∷ filter p ys) (filter p ys)) x) (sym (ap p at ∙ yes_p)) (Contains-head x y (filter p ys) at)
  Contains-filter (y ∷ ys) yes_p (suc k, lt, at) = kept (p y) (Contains-filter ys yes_p (k, omega arith, at))
    where
      kept : (b : Bool) → Contains (filter p ys) x → Contains (cond b (y ∷ filter p ys) (filter p ys)) x
      kept true there = Contains-tail x y (filter p ys) there
      kept false there = there

  -- and those are among all
  Contains-unfiltered : (xs : List X) → Contains (filter p xs) x → Contains xs x
  Contains-unfiltered [] there = there
  Contains-unfiltered (y ∷ ys) there = back (p y) (λ h. Contains-unfiltered ys h) there
    where
      back : (b : Bool) → (Contains (filter p ys) x → Contains ys x) → Contains (cond b (y ∷ filter p ys) (filter p ys)) x → Contains (y ∷ ys) x
      back true behind (zero, lt, at) = Contains-head x y ys at
      back true behind (suc k, lt, at) = Contains-tail x y ys (behind (k, omega arith, at))
      back false behind there = Contains-tail x y ys (behind there)

-- a part that leaves the open markers as they are leaves a marker's item, and so do steps behind it
pub open_marker-behind_tail : {a b c : State} {xs : List Step} (m : Mark) → HasOpenMarker a m → Keeps a b
    → (HasNotFailed b → open_markers_of b.draft.items ≡ open_markers_of a.draft.items) → Puts xs b c → HasOpenMarker c m
open_marker-behind_tail {a} {b} {c} {xs} m there keeps open_markers puts goes =
    let ran : HasNotFailed b = went puts.keeps goes in
    let open_marker : Item = OpenMarker m.id m.made in
    let before : Contains (open_markers_of a.draft.items) open_marker = Contains-filter is_open_marker open_marker a.draft.items refl (there (went keeps ran)) in
    let after : Contains b.draft.items open_marker = Contains-unfiltered is_open_marker open_marker b.draft.items (subst (λ xs. Contains xs open_marker) (sym (open_markers ran)) before) in
    subst (λ draft. Contains draft.items open_marker) (sym (puts.draft goes)) (Contains-append_left b.draft.items (items_for b.draft.entries xs) open_marker after)
