-- What is read of a list, item by item.
use Rattle.std.proofs.Common.{◌≡◌, ℕ, ◌+◌, ◌<◌, List, ◌∷◌, ◌++◌, [], Ok, Err, length, get_or, drop, drop-cons, add-one, append_assoc, ap, refl}
use Rattle.std.specs.Prelude.{Result, map}
use Rattle.serde_json.specs.Data.{Data}
use Rattle.serde_json.specs.View.{view}
use Rattle.serde_json.specs.declared.value.Value.{Value}
use Rattle.squawk_document.specs.declared.document_error.DocumentError.{DocumentError}
use Rattle.squawk_document.specs.Values.{◌>>=◌, each}

-- the items that were read, and then what the rest is read as
abbrev pub with_front : {X : Type 0} → List X → Result (List X) DocumentError → Result (List X) DocumentError
with_front front read = read >>= λ xs. Ok (front ++ xs)

-- what is read from an item on is what is read of it and what is read after it
pub each-item : {X : Type 0} (f : Data → Result X DocumentError) (items : List Value) (i : ℕ) (item : Value) (x : X)
    → i < length items → item ≡ get_or items i item → f (view item) ≡ Ok x
    → each f (map view (drop i items)) ≡ (each f (map view (drop (i + 1) items)) >>= λ xs. Ok (x ∷ xs))
each-item f items i item x within is reads = rw (add-one, drop-cons items i item, ← is, reads) refl

-- an item that was read joins those before it
pub with_front-next : {X : Type 0} (front : List X) (x : X) (rest : Result (List X) DocumentError) → with_front (front ++ x ∷ []) rest ≡ with_front front (rest >>= λ xs. Ok (x ∷ xs))
with_front-next front x (Ok xs) = rw append_assoc refl
with_front-next front x (Err e) = refl
