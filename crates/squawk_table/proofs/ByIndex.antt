-- Lists whose items a function makes of their indices.
use Rattle.std.proofs.Common.{◌≡◌, ◌∙◌, ℕ, ◌+◌, ◌<◌, Some, [], ◌∷◌, ◌++◌, map, length, ap, sym, zero-add}
use Rattle.std.specs.List.{range_with_len, slice_get}
use Rattle.std.proofs.lemmas.List.FromFn.{fill_by_all, length-map-range_with_len, get_or-map-range_with_len, map-range_with_len_more}
use Rattle.std.proofs.lemmas.Option.{slice_get-get_or}

-- one item more, where another function gives the items before it, too
pub map_more : {X : Type 0} (f g : ℕ → X) (n : ℕ) → ((k : ℕ) → k < n → g k ≡ f k)
    → map g (range_with_len 0 (n + 1)) ≡ map f (range_with_len 0 n) ++ g n ∷ []
map_more f g n same =
    let items = map f (range_with_len 0 n) in
    let front = fill_by_all g items n (f 0) (length-map-range_with_len f 0 n)
    (λ k lt. get_or-map-range_with_len f 0 n k k (f 0) lt (zero-add k) ∙ sym (same k lt)) in
    map-range_with_len_more g 0 n n (zero-add n) ∙ ap (λ xs. xs ++ g n ∷ []) (sym front)

-- an item that is there
pub slice_get-map : {X : Type 0} (f : ℕ → X) (n k : ℕ) → k < n → slice_get (map f (range_with_len 0 n)) k ≡ Some (f k)
slice_get-map f n k lt =
    let items = map f (range_with_len 0 n) in
    let within : k < length items = rw length-map-range_with_len lt in
    slice_get-get_or items k (f 0) within ∙ ap Some (get_or-map-range_with_len f 0 n k k (f 0) lt (zero-add k))
