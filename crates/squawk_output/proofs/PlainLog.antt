-- The list of a log is the plain list of its draft, and the errors of items are those of their steps.
use Rattle.std.proofs.Common.{cond, ◌≡◌, ◌∙◌, ℕ, ◌==◌, ◌<◌, Bool, true, false, not, List, [], ◌∷◌, length, get_or, refl, sym, ap, arith, if◌then◌else◌}
use Rattle.std.proofs.lemmas.List.Sums.{sum_by-append}
use Rattle.squawk_kinds.specs.Kinds.{TOMBSTONE}
use Rattle.squawk_output.specs.Steps as steps
use Rattle.squawk_output.specs.Steps.{errors_in}
use Rattle.squawk_output.specs.declared.event.Event.{Event}
use Rattle.squawk_output.specs.declared.event.Event.TheVariants.{Start, Finish}
use Rattle.squawk_output.specs.Chain.{tombstone}
use Rattle.squawk_output.specs.Draft as draft
use Rattle.squawk_output.specs.Draft.{Item, plain}
use Rattle.squawk_output.specs.declared.log.Made.{Made}
use Rattle.squawk_output.specs.EventLog.{Log, has_link, list_of, steps_of_event}
use Rattle.squawk_output.proofs.Gathered.{least_owner, list_of-gathered, steps-here, steps_at}
use Rattle.squawk_output.proofs.Sums.{count_by-cons}
use Rattle.squawk_output.specs.LogDraft.{draft_items, items_of}
use Rattle.squawk_output.proofs.GatheredItems.{flat_map-draft_items, made_by, items_of_index}
use Rattle.squawk_output.proofs.Groups.{gathered-same}

-- which indices are open markers, as a record has it
abbrev pub HaveOpenMarkers : Log → List Bool → Type 0
HaveOpenMarkers log marks = (index : ℕ) → index < length log → get_or marks index false ≡ true → get_or log index Finish ≡ tombstone

plain-item : (index : ℕ) (made : Made) (event : Event) (mark : Bool) → (mark ≡ true → event ≡ tombstone) → plain (items_of index made event mark) ≡ steps_of_event event
plain-item index made (Start kind link) true h = sym (ap steps_of_event (h refl))
plain-item index made (Start kind link) false h = cases (kind == TOMBSTONE) (not (has_link (Start kind link)))
  where
    cases : (whole free : Bool) → plain (if whole then [] else draft.Open index kind free ∷ []) ≡ (if whole then [] else steps.Enter kind ∷ [])
    cases true free = refl
    cases false free = refl
plain-item index made event mark h = refl

pub plain-draft_items : (log : Log) (marks : List Bool) → HaveOpenMarkers log marks → plain (draft_items log marks) ≡ list_of log
plain-draft_items log marks open_markers =
    flat_map-draft_items draft.steps_of_item log marks
    ∙ (gathered-same (least_owner log) (least_owner log) (λ j. plain (items_of_index log marks j)) (steps_at log) (length log) (λ j lt. refl)
    (λ j lt. plain-item j (made_by log j) (get_or log j Finish) (get_or marks j false) (open_markers j lt) ∙ steps-here log j Finish lt)
    ∙ sym (list_of-gathered log))

-- the errors of items are those of their steps
pub errors-plain : (items : List Item) → draft.errors_of items ≡ errors_in (plain items)
errors-plain [] = refl
errors-plain (item ∷ items) =
    omega (
      arith,
      count_by-cons draft.is_error_item item items,
      sum_by-append (λ step. cond (steps.is_error step) 1 0) (draft.steps_of_item item) (plain items),
      one item,
      errors-plain items,
    )
  where
    one : (item : Item) → errors_in (draft.steps_of_item item) ≡ cond (draft.is_error_item item) 1 0
    one (draft.OpenMarker i made) = refl
    one item = refl
