-- What the draft of every log keeps.
use Rattle.std.proofs.Common.{◌≡◌, ◌∙◌, ℕ, ◌+◌, ◌==◌, ◌≤◌, Bool, false, List, [], ◌∷◌, ◌++◌, length, length-append, get_or, refl, sym, ap, arith, cond, if◌then◌else◌, inl, inr}
use Rattle.std.specs.Prelude.{count_by}
use Rattle.std.proofs.lemmas.Bool.{ne_eqb}
use Rattle.std.proofs.lemmas.Bool.Decides.{eqb_tells}
use Rattle.std.proofs.lemmas.Grind.{flat_map-append}
use Rattle.std.proofs.lemmas.List.Sums.{sum_by-append}
use Rattle.squawk_output.specs.declared.event.Event.TheVariants.{Finish}
use Rattle.squawk_output.specs.Draft.{IsLogged, Item, ids, ids_of}
use Rattle.squawk_output.specs.EventLog.{Log}
use Rattle.squawk_output.specs.KeptLogs.{IsRecord}
use Rattle.squawk_output.specs.LogDraft.{draft_items, draft_of}
use Rattle.squawk_output.proofs.GatheredItems.{made_by, items_of_index, size-draft_items}
use Rattle.squawk_output.proofs.Groups.{itself}
use Rattle.squawk_output.proofs.LogItems.{ids_within, items_of-cases}
use Rattle.squawk_output.proofs.LogTurns.{turns_of-most}
use Rattle.squawk_output.proofs.Sizes.{total, total-most, total-one, total-ones}

-- ---- an item an event at most

length-draft_items : (log : Log) (marks : List Bool) → length (draft_items log marks) ≤ length log
length-draft_items log marks =
    omega (
      arith,
      size-draft_items length refl length-append log marks,
      total-most (λ j. length (items_of_index log marks j)) (λ j. 1) (length log)
          (λ j. items_of-cases (λ items. length items ≤ 1) (omega arith) (omega arith) (λ kind n. omega arith) (λ text. omega arith) j (made_by log j) (get_or log j Finish)
          (get_or marks j false) (λ marked. omega arith) (λ kind link is unmarked whole. omega arith)),
      total-ones (length log),
    )

-- ---- and its id is the event's index

module _ (id : ℕ) where
  -- how often items have the id
  abbrev times : List Item → ℕ
  times items = count_by (λ i. i == id) (ids items)

  times-append : (xs ys : List Item) → times (xs ++ ys) ≡ times xs + times ys
  times-append xs ys = ap (count_by (λ i. i == id)) (flat_map-append ids_of xs ys) ∙ sum_by-append (λ i. cond (i == id) 1 0) (ids xs) (ids ys)

  once_there : (index : ℕ) → count_by (λ i. i == id) (index ∷ []) ≤ (if id == index then 1 else 0)
  once_there index =
      elim (eqb_tells id index) [
        | inl e ↦ rw (e.1, itself index) (omega arith)
        | inr e ↦ let other = ne_eqb index id (λ same. e.1 (sym same)) in rw (other, e.0) (omega arith)
      ]

  times-draft_items : (log : Log) (marks : List Bool) → times (draft_items log marks) ≤ total (λ j. if id == j then 1 else 0) (length log)
  times-draft_items log marks =
      omega (
        arith,
        size-draft_items times refl times-append log marks,
        total-most (λ j. times (items_of_index log marks j)) (λ j. if id == j then 1 else 0) (length log)
            (λ j. items_of-cases (λ items. times items ≤ (if id == j then 1 else 0)) (omega arith) (omega arith) (λ kind n. omega arith) (λ text. omega arith) j (made_by log j)
            (get_or log j Finish) (get_or marks j false) (λ marked. once_there j) (λ kind link is unmarked whole. once_there j)),
      )

pub IsLogged-draft_of : (log : Log) (marks : List Bool) (recorded wrong : ℕ) → IsRecord log marks recorded wrong → IsLogged (draft_of log marks recorded)
IsLogged-draft_of log marks recorded wrong is = record {
  few = omega (arith, length-draft_items log marks, is.few);
  turns = omega (arith, turns_of-most log, is.few);
  below = ids_within log marks;
  once = λ id. omega (arith, times-draft_items id log marks, (total-one id 1 (length log)).0);
}
