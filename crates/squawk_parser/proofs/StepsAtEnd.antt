-- Steps at the end of a draft, and a node of them.
use Rattle.std.proofs.Common.{◌≡◌, ◌∙◌, ℕ, ◌+◌, true, false, List, [], ◌∷◌, ◌++◌, length, arith, ap, sym, refl, append_assoc, length-append}
use Rattle.std.proofs.lemmas.List.{append-nil}
use Rattle.std.proofs.lemmas.List.Elements.{All-nil, All-cons}
use Rattle.std.proofs.lemmas.List.Sums.{sum_by-append, sum_by-cons}
use Rattle.squawk_output.specs.Steps as steps
use Rattle.squawk_output.specs.Steps.{Step, Enter, Exit, errors_in}
use Rattle.squawk_output.specs.Draft.{Draft, Item, OpenMarker, Open, Close, HasNoOpenMarker, IsAboveIds, errors_of, is_open_marker, plain}
use Rattle.squawk_output.specs.declared.log.Made.TheVariants.{ByStart}
use Rattle.squawk_output.specs.Edits.{completed, filled, started}
use Rattle.squawk_output.proofs.EditedErrors.{errors-append}
use Rattle.squawk_output.proofs.EditedLog.{draft_is}
use Rattle.squawk_output.proofs.PlainLog.{errors-plain}
use Rattle.squawk_parser.specs.Eaten.{node}
use Rattle.squawk_parser.specs.Recorded.{item_for, items_for, turns_due_of, turns_of_step, with_steps}
use Rattle.squawk_parser.proofs.RecordedItems.{filled-at}

-- ---- the turns of steps

turns_due_of-append : (xs ys : List Step) → turns_due_of (xs ++ ys) ≡ turns_due_of xs + turns_due_of ys
turns_due_of-append xs ys = sum_by-append turns_of_step xs ys

turns_due_of-cons : (step : Step) (xs : List Step) → turns_due_of (step ∷ xs) ≡ turns_of_step step + turns_due_of xs
turns_due_of-cons step xs = sum_by-cons turns_of_step step xs

-- ---- their items

items_for-append : (id : ℕ) (xs ys : List Step) → items_for id (xs ++ ys) ≡ items_for id xs ++ items_for (id + length xs) ys
items_for-append id [] ys = ap (λ n. items_for n ys) (omega arith)
items_for-append id (x ∷ xs) ys =
    let same : id + 1 + length xs ≡ id + length (x ∷ xs) = omega arith in
    ap (λ items. item_for id x ∷ items) (items_for-append (id + 1) xs ys ∙ ap (λ n. items_for (id + 1) xs ++ items_for n ys) same)

pub plain-items_for : (id : ℕ) (xs : List Step) → plain (items_for id xs) ≡ xs
plain-items_for id [] = refl
plain-items_for id (steps.Token kind n ∷ xs) = ap (λ ys. steps.Token kind n ∷ ys) (plain-items_for (id + 1) xs)
plain-items_for id (Enter kind ∷ xs) = ap (λ ys. Enter kind ∷ ys) (plain-items_for (id + 1) xs)
plain-items_for id (Exit ∷ xs) = ap (λ ys. Exit ∷ ys) (plain-items_for (id + 1) xs)
plain-items_for id (steps.Error text ∷ xs) = ap (λ ys. steps.Error text ∷ ys) (plain-items_for (id + 1) xs)

no_open_marker_for : (id : ℕ) (step : Step) → is_open_marker (item_for id step) ≡ false
no_open_marker_for id (steps.Token kind n) = refl
no_open_marker_for id (Enter kind) = refl
no_open_marker_for id Exit = refl
no_open_marker_for id (steps.Error text) = refl

pub closed-items_for : (id : ℕ) (xs : List Step) → HasNoOpenMarker (items_for id xs)
closed-items_for id [] = All-nil (λ item. is_open_marker item ≡ false)
closed-items_for id (x ∷ xs) =
    All-cons (λ item. is_open_marker item ≡ false) (item_for id x) (items_for (id + 1) xs) (no_open_marker_for id x) (closed-items_for (id + 1) xs)

-- ---- the draft

pub with_steps-none : (d : Draft) → with_steps d [] ≡ d
with_steps-none d =
    draft_is (d.items ++ []) (d.recorded + 0) (d.entries + 0) (d.turns_due + 0) d (append-nil d.items) (omega arith) (omega arith) (omega arith)

pub with_steps-append : (d : Draft) (xs ys : List Step) → with_steps (with_steps d xs) ys ≡ with_steps d (xs ++ ys)
with_steps-append d xs ys =
    let new = with_steps (with_steps d xs) ys in
    draft_is new.items new.recorded new.entries new.turns_due (with_steps d (xs ++ ys))
    (append_assoc d.items (items_for d.entries xs) (items_for (d.entries + length xs) ys) ∙ ap (λ items. d.items ++ items) (sym (items_for-append d.entries xs ys)))
    (omega (arith, length-append xs ys)) (omega (arith, length-append xs ys)) (omega (arith, turns_due_of-append xs ys))

pub errors-with_steps : (d : Draft) (xs : List Step) → errors_of (with_steps d xs).items ≡ errors_of d.items + errors_in xs
errors-with_steps d xs =
    errors-append d.items (items_for d.entries xs)
    ∙ ap (λ n. errors_of d.items + n) (errors-plain (items_for d.entries xs) ∙ ap errors_in (plain-items_for d.entries xs))

-- A node is begun, steps are put behind its open marker, and it is completed: that puts the steps of the node.
pub with_steps-node : (d : Draft) (kind : ℕ) (xs : List Step) → IsAboveIds d.entries d.items
    → completed (with_steps (started d) xs) d.entries kind ≡ with_steps d (node kind xs)
with_steps-node d kind xs above =
    let made = items_for (d.entries + 1) xs in
    let new = completed (with_steps (started d) xs) d.entries kind in
    let open_marker : Item = OpenMarker d.entries ByStart in
    let opening : Item = Open d.entries kind true in
    draft_is new.items new.recorded new.entries new.turns_due (with_steps d (node kind xs))
    (ap (λ items. filled items d.entries kind ++ Close ∷ []) (append_assoc d.items (open_marker ∷ []) made)
    ∙ (ap (λ items. items ++ Close ∷ []) (filled-at d.entries kind ByStart d.items made above (closed-items_for (d.entries + 1) xs))
    ∙ (append_assoc d.items (opening ∷ made) (Close ∷ [])
    ∙ ap (λ items. d.items ++ opening ∷ items) (sym (items_for-append (d.entries + 1) xs (Exit ∷ []))))))
    (omega (arith, length-append xs (Exit ∷ []))) (omega (arith, length-append xs (Exit ∷ [])))
    (omega (arith, turns_due_of-append xs (Exit ∷ []), turns_due_of-cons (Enter kind) (xs ++ Exit ∷ [])))
