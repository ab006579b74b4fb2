-- Names of kinds, one by one.
use Rattle.std.proofs.Common.{◌≡◌, ℕ, ◌<◌, ◌+◌, List, length, take, get_or, ap, sym, ◌∙◌, Bor}
use Rattle.std.proofs.lemmas.List.{get_or-map, length-map, take_more_same}
use Rattle.rule_source.specs.Same.{name_of, names_in}

-- the name that stands at a place
pub name_at : (pairs : List (ℕ × Bor (List ℕ))) (i : ℕ) (pair other : ℕ × Bor (List ℕ)) → i < length pairs
    → pair ≡ get_or pairs i pair → get_or (names_in pairs) i (name_of other) ≡ name_of pair
name_at pairs i pair other within is = get_or-map name_of pairs i pair (name_of other) within ∙ ap name_of (sym is)

module _ (one other : List (ℕ × Bor (List ℕ))) (i : ℕ) (x y : ℕ × Bor (List ℕ)) (x_is : x ≡ get_or one i x) (y_is : y ≡ get_or other i y)
    (within : i < length one) (within_other : i < length other) where
  -- the same names have the same one at each place
  pub same_at : names_in one ≡ names_in other → name_of x ≡ name_of y
  same_at same = sym (name_at one i x x within x_is) ∙ ap (λ names. get_or names i (name_of x)) same ∙ name_at other i y x within_other y_is

  -- and one more is the same
  pub same_more : take i (names_in one) ≡ take i (names_in other) → name_of x ≡ name_of y
      → take (i + 1) (names_in one) ≡ take (i + 1) (names_in other)
  same_more begun same = take_more_same (names_in one) (names_in other) i (name_of x)
      (rw (length-map one name_of) within) (rw (length-map other name_of) within_other) begun
      (name_at one i x x within x_is ∙ same ∙ sym (name_at other i y x within_other y_is))
