-- The items of a log's draft as proofs take them apart: by functions of an index.
use Rattle.std.proofs.Common.{◌≡◌, ◌∙◌, ℕ, ◌+◌, ◌==◌, Bool, false, List, [], ◌++◌, length, get_or, refl, sym, ap, arith, if◌then◌else◌}
use Rattle.std.specs.List.{flat_map}
use Rattle.squawk_output.specs.declared.event.Event.TheVariants.{Finish}
use Rattle.squawk_output.specs.EventLog.{Log, in_list_order}
use Rattle.squawk_output.proofs.Gathered.{flat_map-twice, gathered, in_list_order-gathered, least_owner, owner-least}
use Rattle.squawk_output.proofs.Groups.{gathered-same}
use Rattle.squawk_output.proofs.Owners.{owner-most}
use Rattle.squawk_output.proofs.Sizes.{size-gathered, total}
use Rattle.squawk_output.specs.Draft.{Item}
use Rattle.squawk_output.specs.declared.log.Made.{Made}
use Rattle.squawk_output.specs.declared.log.Made.TheVariants.{ByPrecede, ByStart}
use Rattle.squawk_output.specs.LogDraft.{draft_items, items_at, items_of}

-- how an open marker at an index was made
abbrev pub made_by : Log → ℕ → Made
made_by log index = if least_owner log index == index then ByStart else ByPrecede

-- the items of the event at an index
abbrev pub items_of_index : Log → List Bool → ℕ → List Item
items_of_index log marks index = items_of index (made_by log index) (get_or log index Finish) (get_or marks index false)

-- both are the same items
pub draft_items-gathered : (log : Log) (marks : List Bool) → draft_items log marks ≡ gathered (least_owner log) (items_of_index log marks) (length log)
draft_items-gathered log marks =
    in_list_order-gathered (items_at log marks) (items_of_index log marks) log Finish (λ j lt. rw (owner-least log j lt) refl)

-- and so are those that an edit of every item makes of them
pub flat_map-draft_items : {Y : Type 0} (f : Item → List Y) (log : Log) (marks : List Bool)
    → flat_map f (draft_items log marks) ≡ gathered (least_owner log) (λ j. flat_map f (items_of_index log marks j)) (length log)
flat_map-draft_items f log marks =
    flat_map-twice f (items_at log marks) (in_list_order log)
    ∙ in_list_order-gathered (λ item. flat_map f (items_at log marks item)) (λ j. flat_map f (items_of_index log marks j)) log Finish (λ j lt. rw (owner-least log j lt) refl)

-- where the owners stay, an edit of the items of each index is one of all
pub draft_items-same : (f : Item → List Item) (log log' : Log) (marks marks' : List Bool) → length log' ≡ length log → ((j : ℕ) → least_owner log' j ≡ least_owner log j)
    → ((j : ℕ) → items_of_index log' marks' j ≡ flat_map f (items_of_index log marks j)) → draft_items log' marks' ≡ flat_map f (draft_items log marks)
draft_items-same f log log' marks marks' same owns items =
    draft_items-gathered log' marks'
    ∙ (ap (gathered (least_owner log') (items_of_index log' marks')) same
    ∙ (gathered-same (least_owner log') (least_owner log) (items_of_index log' marks') (λ j. flat_map f (items_of_index log marks j)) (length log) (λ j lt. owns j) (λ j lt. items j)
    ∙ sym (flat_map-draft_items f log marks)))

-- a size of the items is the sum over all indices
pub size-draft_items : (size : List Item → ℕ) → size [] ≡ 0 → ((xs ys : List Item) → size (xs ++ ys) ≡ size xs + size ys) → (log : Log) (marks : List Bool)
    → size (draft_items log marks) ≡ total (λ j. size (items_of_index log marks j)) (length log)
size-draft_items size none add log marks =
    ap size (draft_items-gathered log marks)
    ∙ size-gathered size none add (least_owner log) (items_of_index log marks) (length log) (λ j lt. omega (arith, owner-most log j, lt))
