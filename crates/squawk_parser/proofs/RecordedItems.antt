-- Views of items and steps that are joined, and an open marker among items that becomes an opening.
use Rattle.std.proofs.Common.{◌≡◌, ℕ, ◌+◌, ◌<◌, ◌≤◌, ◌==◌, Bool, true, false, List, [], ◌∷◌, ◌++◌, cond, arith, length, length-append, refl, ◌∙◌}
use Rattle.std.specs.Prelude.{All, count_by}
use Rattle.std.proofs.lemmas.Bool.{eqb-true}
use Rattle.std.proofs.lemmas.List.Sums.{sum_by-append}
use Rattle.std.proofs.lemmas.List.Elements.{All-head, All-tail}
use Rattle.std.proofs.lemmas.Grind.{flat_map-append}
use Rattle.squawk_output.specs.Steps.{Step, is_error, errors_in, eaten, count_of}
use Rattle.squawk_output.specs.Draft.{Item, OpenMarker, Open, Close, Token, Error, HasNoOpenMarker, IsAboveIds, ids, ids_of, is_open_marker, plain, steps_of_item}
use Rattle.squawk_output.specs.declared.log.Made.{Made}
use Rattle.squawk_output.specs.Edits.{filled, is_open_marker_of}
use Rattle.squawk_output.proofs.Groups.{itself}
use Rattle.squawk_parser.proofs.Splits.{count-le_ids, count_by-fails, open_marker_each, replaced-at}

pub plain-append : (xs ys : List Item) → plain (xs ++ ys) ≡ plain xs ++ plain ys
plain-append xs ys = flat_map-append steps_of_item xs ys

pub ids-append : (xs ys : List Item) → ids (xs ++ ys) ≡ ids xs ++ ids ys
ids-append xs ys = flat_map-append ids_of xs ys

pub steps_errors-append : (xs ys : List Step) → errors_in (xs ++ ys) ≡ errors_in xs + errors_in ys
steps_errors-append xs ys = sum_by-append (λ step. cond (is_error step) 1 0) xs ys

pub eaten-append : (xs ys : List Step) → eaten (xs ++ ys) ≡ eaten xs + eaten ys
eaten-append xs ys = sum_by-append count_of xs ys

-- an id that is above all others isn't among them
unused_cases : (id i : ℕ) (is : List ℕ) (b : Bool) → (i == id) ≡ b → i < id → count_by (λ i. i == id) is ≡ 0 → count_by (λ i. i == id) (i ∷ is) ≡ 0
unused_cases id i is true e lt rest = absurd (omega (arith, eqb-true i id e))
unused_cases id i is false e lt rest = count_by-fails (λ i. i == id) i is e ∙ rest

unused : (id : ℕ) (is : List ℕ) → All (λ i. i < id) is → count_by (λ i. i == id) is ≡ 0
unused id [] all = refl
unused id (i ∷ is) all = unused_cases id i is (i == id) refl (All-head (λ i. i < id) i is all) (unused id is (All-tail (λ i. i < id) i is all))

-- so no item of its marker is, nor among items without an open marker
pub none_below : (id : ℕ) (items : List Item) → IsAboveIds id items → count_by (is_open_marker_of id) items ≡ 0
none_below id items above = omega (arith, count-le_ids (is_open_marker_of id) id (open_marker_each id) items, unused id (ids items) above)

closed_one : (id : ℕ) (item : Item) → is_open_marker item ≡ false → is_open_marker_of id item ≡ false
closed_one id (OpenMarker i made) closed = absurd (cc)
closed_one id (Open i kind free) closed = refl
closed_one id Close closed = refl
closed_one id (Token kind n) closed = refl
closed_one id (Error text) closed = refl

pub none_closed : (id : ℕ) (items : List Item) → HasNoOpenMarker items → count_by (is_open_marker_of id) items ≡ 0
none_closed id [] closed = refl
none_closed id (item ∷ items) closed =
    count_by-fails (is_open_marker_of id) item items (closed_one id item (All-head (λ item. is_open_marker item ≡ false) item items closed))
    ∙ none_closed id items (All-tail (λ item. is_open_marker item ≡ false) item items closed)

-- the open marker becomes an opening there
pub filled-at : (id kind : ℕ) (made : Made) (xs ys : List Item) → IsAboveIds id xs → HasNoOpenMarker ys
    → filled (xs ++ OpenMarker id made ∷ ys) id kind ≡ xs ++ Open id kind true ∷ ys
filled-at id kind made xs ys above closed =
    replaced-at (is_open_marker_of id) (λ item. Open id kind true ∷ []) xs ys (OpenMarker id made) (itself id) (none_below id xs above) (none_closed id ys closed)

one_step : (item : Item) → length (steps_of_item item) ≤ 1
one_step (OpenMarker i made) = omega arith
one_step (Open i kind free) = omega arith
one_step Close = omega arith
one_step (Token kind n) = omega arith
one_step (Error text) = omega arith

-- the plain list has no more steps than there are items
pub length-plain : (items : List Item) → length (plain items) ≤ length items
length-plain [] = omega arith
length-plain (item ∷ items) = omega (arith, length-append (steps_of_item item) (plain items), one_step item, length-plain items)
