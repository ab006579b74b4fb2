-- The errors of a draft stay where open markers and openings are edited, and are those of its log.
use Rattle.std.proofs.Common.{◌≡◌, ℕ, ◌+◌, ◌==◌, not, length, get_or, Bool, true, false, List, [], ◌∷◌, ◌++◌, cond, if◌then◌else◌, refl, arith, ◌∙◌}
use Rattle.std.proofs.lemmas.List.Sums.{sum_by-append}
use Rattle.squawk_output.specs.Draft.{Item, OpenMarker, Open, Error, errors_of, is_error_item, Node}
use Rattle.squawk_output.specs.declared.log.Made.{Made}
use Rattle.squawk_kinds.specs.Kinds.{TOMBSTONE}
use Rattle.squawk_output.specs.declared.event.Event.{Event}
use Rattle.squawk_output.specs.declared.event.Event.TheVariants as event
use Rattle.squawk_output.specs.EventLog.{Log, errors_logged, has_link, is_error_event}
use Rattle.squawk_output.specs.LogDraft.{draft_items, items_of}
use Rattle.squawk_output.proofs.GatheredItems.{made_by, items_of_index, size-draft_items}
use Rattle.squawk_output.proofs.Sizes.{total, total-same}
use Rattle.squawk_output.proofs.Sums.{count_by-cons}
use Rattle.squawk_output.specs.Edits.{filled, is_open_marker_of, is_opening_of, replaced, preceded_item, without_open_marker, stands_before, moved, extended_items}

pub errors-append : (xs ys : List Item) → errors_of (xs ++ ys) ≡ errors_of xs + errors_of ys
errors-append xs ys = sum_by-append (λ item. cond (is_error_item item) 1 0) xs ys

either_way : (b : Bool) (xs ys : List Item) → errors_of xs ≡ 0 → errors_of ys ≡ 0 → errors_of (if b then xs else ys) ≡ 0
either_way true xs ys e h = e
either_way false xs ys e h = h

-- items that are no errors are replaced by others that are none
module _ (p : Item → Bool) (f : Item → List Item) (spares : (text : List ℕ) → p (Error text) ≡ false) (none : (item : Item) → is_error_item item ≡ false → errors_of (f item) ≡ 0) where
  errors-step : (item : Item) → errors_of (if p item then f item else item ∷ []) ≡ errors_of (item ∷ [])
  errors-step (Error text) = rw (spares text) refl
  errors-step item = either_way (p item) (f item) (item ∷ []) (none item refl) refl

  errors-replaced : (items : List Item) → errors_of (replaced p f items) ≡ errors_of items
  errors-replaced [] = refl
  errors-replaced (item ∷ items) =
      omega (arith, errors-append (if p item then f item else item ∷ []) (replaced p f items), errors-step item, errors-replaced items, errors-append (item ∷ []) items)

pub errors-filled : (id kind : ℕ) (items : List Item) → errors_of (filled items id kind) ≡ errors_of items
errors-filled id kind = errors-replaced (is_open_marker_of id) (λ item. Open id kind true ∷ []) (λ text. refl) (λ item right. refl)

pub errors-without_open_marker : (id : ℕ) (items : List Item) → errors_of (without_open_marker id items) ≡ errors_of items
errors-without_open_marker id = errors-replaced (is_open_marker_of id) (λ item. []) (λ text. refl) (λ item right. refl)

pub errors-preceded : (node id : ℕ) (made : Made) (items : List Item) → errors_of (replaced (is_opening_of node) (λ item. OpenMarker id made ∷ preceded_item item ∷ []) items) ≡ errors_of items
errors-preceded node id made = errors-replaced (is_opening_of node) (λ item. OpenMarker id made ∷ preceded_item item ∷ []) (λ text. refl) none
  where
    none : (item : Item) → is_error_item item ≡ false → errors_of (OpenMarker id made ∷ preceded_item item ∷ []) ≡ 0
    none (Error text) right = absurd (cc)
    none item right = refl

pub errors-extended : (node : Node) (id : ℕ) (items : List Item) → errors_of (extended_items node id items) ≡ errors_of items
errors-extended node id items = cases (stands_before (is_open_marker_of id) (is_opening_of node.id) items)
  where
    cases : (b : Bool) → errors_of (if b then moved node id items else without_open_marker id items) ≡ errors_of items
    cases true =
        errors-replaced (is_open_marker_of id) (λ item. Open node.id node.kind true ∷ []) (λ text. refl) (λ item right. refl) (replaced (is_opening_of node.id) (λ item. []) items)
        ∙ errors-replaced (is_opening_of node.id) (λ item. []) (λ text. refl) (λ item right. refl) items
    cases false = errors-without_open_marker id items

-- ---- the errors of a log's draft are its events that are errors

errors-items_of : (index : ℕ) (made : Made) (event : Event) (mark : Bool) → errors_of (items_of index made event mark) ≡ cond (is_error_event event) 1 0
errors-items_of index made (event.Start kind link) true = refl
errors-items_of index made (event.Start kind link) false = either_way (kind == TOMBSTONE) [] (Open index kind (not (has_link (event.Start kind link))) ∷ []) refl refl
errors-items_of index made other mark = refl

total-errors : (log : Log) → total (λ j. cond (is_error_event (get_or log j event.Finish)) 1 0) (length log) ≡ errors_logged log
total-errors [] = refl
total-errors (x ∷ xs) = omega (arith, total-errors xs, count_by-cons is_error_event x xs)

pub errors-draft_items : (log : Log) (marks : List Bool) → errors_of (draft_items log marks) ≡ errors_logged log
errors-draft_items log marks =
    size-draft_items errors_of refl errors-append log marks
    ∙ (total-same (λ j. errors_of (items_of_index log marks j)) (λ j. cond (is_error_event (get_or log j event.Finish)) 1 0) (length log)
    (λ j. errors-items_of j (made_by log j) (get_or log j event.Finish) (get_or marks j false)) ∙ total-errors log)
