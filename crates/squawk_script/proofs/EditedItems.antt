-- What an edited list of items has.
use Rattle.std.proofs.Common.{◌≡◌, ◌⊎◌, inl, inr, ℕ, ◌<◌, Bool, true, false, List, [], ◌∷◌, cond, arith, Contains}
use Rattle.std.proofs.lemmas.Bool.{cond_both}
use Rattle.std.proofs.lemmas.List.Elements.{All-contains, Contains-append_right, Contains-append_cases}
use Rattle.squawk_output.specs.Draft.{Item, IsAboveIds, ids, ids_of}
use Rattle.squawk_output.specs.Edits.{replaced}
use Rattle.squawk_output.proofs.LogItems.{Contains-only}
use Rattle.squawk_parser.proofs.Splits.{Contains-flat_map}

-- an item that passes the test, and that gives way to this one among others
pub record IsMade (p : Item → Bool) (f : Item → List Item) (new : Item) : Type 0 where
  pub old : Item
  pub passes : p old ≡ true
  pub gives : Contains (f old) new

module _ (p : Item → Bool) (f : Item → List Item) where
  -- what an item gives way to is in the edited list
  pub Contains-made : (old new : Item) (items : List Item) → p old ≡ true → Contains items old → Contains (f old) new → Contains (replaced p f items) new
  Contains-made old new items passes there gives =
      Contains-flat_map (λ item. cond (p item) (f item) (item ∷ [])) new old items there (rw passes gives)

  -- and nothing else but the items that don't pass
  pub edited-cases : (items : List Item) (x : Item) → Contains (replaced p f items) x → IsMade p f x ⊎ ((p x ≡ false) × Contains items x)
  edited-cases [] x (k, lt, at) = absurd (omega arith)
  edited-cases (item ∷ items) x has = elim (Contains-append_cases (cond (p item) (f item) (item ∷ [])) (replaced p f items) x has) [
    | inl here ↦
        cond_both (p item) (f item) (item ∷ []) (λ made. Contains made x → IsMade p f x ⊎ ((p x ≡ false) × Contains (item ∷ items) x))
        (λ e gives. inl (record { old = item; passes = e; gives = gives }))
        (λ e gives. let same : item ≡ x = Contains-only x item gives in inr (rw same at e, (0, omega arith, same))) here
    | inr behind ↦ elim (edited-cases items x behind) [
      | inl made ↦ inl made
      | inr stayed ↦ inr (stayed.0, Contains-append_right (item ∷ []) items x stayed.1)
    ]
  ]

-- an id of an item is below what is above all ids
pub id-below : (id i : ℕ) (item : Item) (items : List Item) → IsAboveIds id items → Contains items item → Contains (ids_of item) i → i < id
id-below id i item items above there has = All-contains (λ j. j < id) (ids items) i above (Contains-flat_map ids_of i item items there has)
