-- An input's tokens, by the lists of what they have.
use Rattle.std.proofs.Common.{◌≡◌, ◌∙◌, ℕ, ◌<◌, ◌≤◌, Bool, false, Some, None, List, [], ◌∷◌, ◌++◌, length, get_or, arith, ap, sym, refl, inl, inr}
use Rattle.std.specs.List.{slice_get}
use Rattle.std.proofs.Math.ListN.{get_or-eq_default}
use Rattle.std.proofs.lemmas.List.FromFn.{length-map-range_with_len}
use Rattle.std.proofs.lemmas.Bool.{cases_lt}
use Rattle.std.proofs.lemmas.List.{get_or_append_left, get_or_push, length_push}
use Rattle.std.proofs.lemmas.Option.{slice_get_past}
use Rattle.squawk_table.specs.InputView.{IsEven, entries_in, entry_in}
use Rattle.squawk_table.specs.ParserInput.{Entry, kind_in, contextual_kind_in, is_joint_in}
use Rattle.squawk_table.proofs.ByIndex.{map_more, slice_get-map}

module _ (kinds contextual_kinds : List ℕ) (joints : List Bool) where
  abbrev entries : List Entry
  entries = entries_in kinds contextual_kinds joints

  abbrev entry : ℕ → Entry
  entry = entry_in kinds contextual_kinds joints

  pub length-entries_in : length entries ≡ length kinds
  length-entries_in = length-map-range_with_len entry 0 (length kinds)

  inside : (i : ℕ) → i < length kinds → slice_get entries i ≡ Some (entry i)
  inside i lt = slice_get-map entry (length kinds) i lt

  past : (i : ℕ) → length kinds ≤ i → slice_get entries i ≡ None
  past i le = slice_get_past entries i (omega (arith, length-entries_in))

  pub kind_in-entries : (i : ℕ) → kind_in entries i ≡ get_or kinds i 0
  kind_in-entries i =
      elim (cases_lt i (length kinds)) [
        | inl lt ↦ rw (inside i lt) refl
        | inr le ↦ rw (past i le) (sym (get_or-eq_default kinds 0 le))
      ]

  pub contextual_kind_in-entries : IsEven kinds contextual_kinds joints → (i : ℕ) → contextual_kind_in entries i ≡ get_or contextual_kinds i 0
  contextual_kind_in-entries even i =
      elim (cases_lt i (length kinds)) [
        | inl lt ↦ rw (inside i lt) refl
        | inr le ↦ rw (past i le) (sym (get_or-eq_default contextual_kinds 0 (omega (arith, even.contextual))))
      ]

  pub is_joint_in-entries : (i : ℕ) → i < length kinds → is_joint_in entries i ≡ get_or joints i false
  is_joint_in-entries i lt = rw (inside i lt) refl

  module _ (kind contextual_kind : ℕ) (touch : Bool) (even : IsEven kinds contextual_kinds joints) where
    abbrev kinds_more : List ℕ
    kinds_more = kinds ++ kind ∷ []

    abbrev contextual_kinds_more : List ℕ
    contextual_kinds_more = contextual_kinds ++ contextual_kind ∷ []

    abbrev joints_more : List Bool
    joints_more = joints ++ touch ∷ []

    kept : (k : ℕ) → k < length kinds → entry_in kinds_more contextual_kinds_more joints_more k ≡ entry k
    kept k lt =
        let kind_stays = get_or_append_left kinds (kind ∷ []) 0 k lt in
        let contextual_kind_stays = get_or_append_left contextual_kinds (contextual_kind ∷ []) 0 k (omega (arith, even.contextual)) in
        let joint_stays = get_or_append_left joints (touch ∷ []) false k (omega (arith, even.joint)) in
        rw (kind_stays, contextual_kind_stays, joint_stays) refl

    last : entry_in kinds_more contextual_kinds_more joints_more (length kinds) ≡ record { kind = kind; contextual_kind = contextual_kind; is_joint = touch }
    last =
        rw (
          get_or_push kinds kind 0 (length kinds) refl,
          get_or_push contextual_kinds contextual_kind 0 (length kinds) even.contextual,
          get_or_push joints touch false (length kinds) even.joint,
        ) refl

    -- one token more
    pub entries_in-push : entries_in kinds_more contextual_kinds_more joints_more ≡ entries ++ record { kind = kind; contextual_kind = contextual_kind; is_joint = touch } ∷ []
    entries_in-push =
        rw (length_push kinds kind)
        (map_more entry (entry_in kinds_more contextual_kinds_more joints_more) (length kinds) kept ∙ ap (λ e. entries ++ e ∷ []) last)
