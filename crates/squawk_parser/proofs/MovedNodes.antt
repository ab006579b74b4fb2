-- What grammars may rely on: a marker that is abandoned, and a node that is extended to an earlier one, in the words of what is added.
use Rattle.std.proofs.Common.{◌≡◌, ◌∙◌, ℕ, Bool, true, false, Option, Some, None, List, [], ◌∷◌, ◌++◌, if◌then◌else◌, arith, ap, sym, refl, append_assoc}
use Rattle.std.specs.Prelude.{count_by}
use Rattle.std.proofs.lemmas.List.Elements.{All-append}
use Rattle.squawk_output.specs.Draft.{Draft, Item, Mark, Node, OpenMarker, Open, is_open_marker, plain}
use Rattle.squawk_output.specs.declared.log.Made.TheVariants.{ByStart}
use Rattle.squawk_output.specs.Edits.{abandoned, extended, is_open_marker_of, is_opening_of, moved, replaced, stands_before, without_open_marker}
use Rattle.squawk_output.specs.Steps.{Step, Enter, Exit}
use Rattle.squawk_output.proofs.Groups.{itself}
use Rattle.squawk_output.proofs.Sums.{count_by-cons}
use Rattle.squawk_parser.specs.Composed.{Adds, AddsNode}
use Rattle.squawk_parser.specs.Eaten.{node}
use Rattle.squawk_parser.specs.Recorded.{Begins}
use Rattle.squawk_parser.specs.State.{State, Changes, Keeps}
use Rattle.squawk_parser.specs.declared.parser.parse_error.ParseError.{ParseError}
use Rattle.squawk_parser.proofs.AddedSteps.{begun_items, is_below}
use Rattle.squawk_parser.proofs.Markers.{changed, went-changed}
use Rattle.squawk_parser.proofs.Progress.{eaten-node}
use Rattle.squawk_parser.proofs.RecordedItems.{eaten-append, none_below, none_closed, plain-append}
use Rattle.squawk_parser.proofs.RecordedSteps.{Keeps-then, went}
use Rattle.squawk_parser.proofs.Splits.{count_by-append, count_by-passes, openings-once, replaced-at}

-- a change of the draft keeps all else
pub Keeps-changed : {s t : State} {edited : Draft} → Changes s t edited → Keeps s t
Keeps-changed {s} {t} {edited} changes = cases s.first_reason refl
  where
    keeps : (d : Draft) → t ≡ record s { draft = d } → Keeps s t
    keeps d is = record {
      input = ap (λ u. u.input) is;
      words = ap (λ u. u.words) is;
      limit = ap (λ u. u.limit) is;
      forward = omega (arith, ap (λ u. u.position) is);
      max_events = ap (λ u. u.max_events) is;
      max_errors = ap (λ u. u.max_errors) is;
      reason = λ _. ap (λ u. u.first_reason) is;
      sound = changes.sound;
    }

    cases : (f : Option ParseError) → s.first_reason ≡ f → Keeps s t
    cases None e = keeps edited (changes.goes e)
    cases (Some reason) e = keeps s.draft (changes.stays (rw e refl))

-- a parser that goes on after it is where it was
still : {s t : State} {edited : Draft} → Changes s t edited → t.position ≡ s.position
still {s} {t} {edited} changes = cases s.first_reason refl
  where
    cases : (f : Option ParseError) → s.first_reason ≡ f → t.position ≡ s.position
    cases None e = ap (λ u. u.position) (changes.goes e)
    cases (Some reason) e = ap (λ u. u.position) (changes.stays (rw e refl))

-- a marker is started, steps are added, and it is abandoned: the steps stay
pub abandoned_adds : {a b c d : State} {m : Mark} {xs : List Step} → Begins m a b → Adds xs b c → Changes c d (abandoned c.draft m.id) → Adds xs a d
abandoned_adds {a} {b} {c} {d} {m} {xs} begins adds changes = record {
  keeps = Keeps-then begins.keeps (Keeps-then adds.keeps (Keeps-changed changes));
  position = omega (arith, begins.position, adds.position, still changes);
  draft = λ goes.
      let before = went-changed changes goes in
      let put = adds.draft before in
      record {
        made = put.made;
        items = ap (λ d. d.items) (changed changes goes)
            ∙ (ap (without_open_marker m.id) (begun_items begins adds before)
            ∙ replaced-at (is_open_marker_of m.id) (λ item. []) a.draft.items put.made (OpenMarker m.id ByStart) (itself m.id) (none_below m.id a.draft.items (is_below begins)) (none_closed m.id put.made put.closed));
        steps_made = put.steps_made;
        closed = put.closed;
      };
}

stands-first : (p q : Item → Bool) (xs ys : List Item) (x : Item) → p x ≡ true → count_by q xs ≡ 0 → stands_before p q (xs ++ x ∷ ys) ≡ true
stands-first p q [] ys x passes none = rw passes refl
stands-first p q (y ∷ xs) ys x passes none = cases (p y) (q y) refl (stands-first p q xs ys x passes (omega (arith, none, count_by-cons q y xs)))
  where
    cases : (b other : Bool) → q y ≡ other → stands_before p q (xs ++ x ∷ ys) ≡ true → (if b then true else if other then false else stands_before p q (xs ++ x ∷ ys)) ≡ true
    cases true other e rest = refl
    cases false true e rest = absurd (omega (arith, none, count_by-passes q y xs e))
    cases false false e rest = rest

-- A marker is started, steps are added, a node is added behind them, and it is extended to the marker: the node begins before the steps.
pub extended_adds : {a b c d e : State} {m : Mark} {n : Node} {xs : List Step} (kind : ℕ) (zs : List Step) → Begins m a b → Adds xs b c → AddsNode (node kind zs) n c d
    → Changes d e (extended d.draft n m.id) → AddsNode (node kind (xs ++ zs)) n a e
extended_adds {a} {b} {c} {d} {e} {m} {n} {xs} kind zs begins adds adds_node changes = record {
  keeps = Keeps-then begins.keeps (Keeps-then adds.keeps (Keeps-then adds_node.keeps (Keeps-changed changes)));
  position = omega (arith, begins.position, adds.position, adds_node.position, still changes, eaten-node kind zs, eaten-node kind (xs ++ zs), eaten-append xs zs);
  draft = λ goes.
      let gone = went-changed changes goes in
      let put = adds_node.draft gone in
      let before = went adds_node.keeps gone in
      let added = adds.draft before in
      let old = a.draft.items in
      let open_marker = OpenMarker m.id ByStart in
      let opening = Open n.id n.kind true in
      let front = old ++ open_marker ∷ added.made in
      let items : d.draft.items ≡ front ++ opening ∷ put.inner = put.items ∙ ap (λ zs. zs ++ opening ∷ put.inner) (begun_items begins adds before) in
      let p = is_opening_of n.id in
      let once = openings-once n.id d.draft.items adds_node.keeps.sound.logged.once in
      let total = ap (count_by p) items ∙ count_by-append p front (opening ∷ put.inner) in
      let one = count_by-passes p opening put.inner (itself n.id) in
      let closed = All-append (λ item. is_open_marker item ≡ false) added.made put.inner added.closed put.closed in
      let stands : stands_before (is_open_marker_of m.id) p (front ++ opening ∷ put.inner) ≡ true =
      ap (stands_before (is_open_marker_of m.id) p) (append_assoc old (open_marker ∷ added.made) (opening ∷ put.inner))
      ∙ stands-first (is_open_marker_of m.id) p old (added.made ++ opening ∷ put.inner) open_marker (itself m.id) (omega (arith, total, one, once, count_by-append p old (open_marker ∷ added.made))) in
      let inner : (n.kind ≡ kind) × (plain put.inner ≡ zs ++ Exit ∷ []) = let e = put.steps_made in (cc, cc) in
      record {
        inner = added.made ++ put.inner;
        items = ap (λ d. d.items) (changed changes goes)
            ∙ (ap (λ items. if stands_before (is_open_marker_of m.id) p items then moved n m.id items else without_open_marker m.id items) items
            ∙ (ap (λ b. if b then moved n m.id (front ++ opening ∷ put.inner) else without_open_marker m.id (front ++ opening ∷ put.inner)) stands
            ∙ (ap (replaced (is_open_marker_of m.id) (λ item. opening ∷ []))
            (replaced-at p (λ item. []) front put.inner opening (itself n.id) (omega (arith, total, one, once)) (omega (arith, total, one, once)) ∙ append_assoc old (open_marker ∷ added.made) put.inner)
            ∙ replaced-at (is_open_marker_of m.id) (λ item. opening ∷ []) old (added.made ++ put.inner) open_marker (itself m.id) (none_below m.id old (is_below begins)) (none_closed m.id (added.made ++ put.inner) closed))));
        steps_made = ap (λ kind. Enter kind ∷ plain (added.made ++ put.inner)) inner.0
            ∙ ap (λ zs. Enter kind ∷ zs) (plain-append added.made put.inner ∙ (ap (λ ys. ys ++ plain put.inner) added.steps_made ∙ (ap (λ ys. xs ++ ys) inner.1 ∙ sym (append_assoc xs zs (Exit ∷ [])))));
        closed = closed;
      };
}
