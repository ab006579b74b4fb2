-- Lists whose items are those that a function gives for their indices.
use Rattle.std.proofs.Common.{◌≡◌, ℕ, zero, suc, ◌+◌, ◌<◌, inl, inr, List, [], ◌∷◌, ◌++◌, length, Option, Some, slice_get, arith, refl, sym, subst, ap, ◌∙◌}
use Rattle.std.proofs.lemmas.Bool.{cases_eq}
use Rattle.rule_grammar.specs.declared.part.Part as row
use Rattle.rule_grammar.specs.Parts.{part_at, part_in, part_of}
use Rattle.rule_tables.specs.Rows.{ListsSome}

-- an item of the front of a list
pub slice_get-front : {X : Type 0} (xs ys : List X) (i : ℕ) → i < length xs → slice_get (xs ++ ys) i ≡ slice_get xs i
slice_get-front [] ys i lt = absurd (omega (arith, lt))
slice_get-front (x ∷ xs) ys zero lt = refl
slice_get-front (x ∷ xs) ys (suc i) lt = slice_get-front xs ys i (omega (arith, lt))

-- the item after the front
pub slice_get-seam : {X : Type 0} (xs : List X) (y : X) → slice_get (xs ++ y ∷ []) (length xs) ≡ Some y
slice_get-seam [] y = refl
slice_get-seam (x ∷ xs) y = slice_get-seam xs y

-- one item more
pub lists_more : {X : Type 0} (f : ℕ → Option X) (xs : List X) (n : ℕ) (y : X) → n ≡ length xs → ListsSome f n xs → f n ≡ Some y → ListsSome f (n + 1) (xs ++ y ∷ [])
lists_more f xs n y len below here i lt =
    elim (cases_eq i n) [
      | inl same ↦ rw (same, len) (slice_get-seam xs y ∙ sym (subst (λ (k : ℕ). f k ≡ Some y) len here))
      | inr other ↦ slice_get-front xs (y ∷ []) i (omega arith) ∙ below i (omega arith)
    ]

-- one row more that says what it is
pub say_more : (rows : List row.Part) (numbers : List (List ℕ)) (n : ℕ) (last : List ℕ) → n ≡ length numbers → ListsSome (λ i. Some (part_at numbers i)) n rows → slice_get rows n ≡ Some (part_of last) → ListsSome (λ i. Some (part_at (numbers ++ last ∷ []) i)) (n + 1) rows
say_more rows numbers n last len below here i lt =
    elim (cases_eq i n) [
      | inl same ↦ rw same (here ∙ ap (λ found. Some (part_in found)) (sym (subst (λ (k : ℕ). slice_get (numbers ++ last ∷ []) k ≡ Some last) (sym len) (slice_get-seam numbers last))))
      | inr other ↦ below i (omega arith) ∙ ap (λ found. Some (part_in found)) (sym (slice_get-front numbers (last ∷ []) i (omega arith)))
    ]
