-- Words and their kinds, one after another.
use Rattle.std.proofs.Common.{◌≡◌, ℕ, ◌<◌, List, [], ◌∷◌, zero, suc, length, get_or, Option, Some, None, refl, sym, ap, arith}
use Rattle.std.specs.Prelude.{slice_get}
use Rattle.std.specs.Option.{option_or}

pub or_none : (o : Option ℕ) → option_or o None ≡ o
or_none None = refl
or_none (Some x) = refl

-- what stands at an index
pub slice_get-at : {X : Type 0} (xs : List X) (at : ℕ) (x : X) → at < length xs → ((d : X) → x ≡ get_or xs at d) → slice_get xs at ≡ Some x
slice_get-at [] at x within is = absurd (omega arith)
slice_get-at (first ∷ xs) zero x within is = ap Some (sym (is first))
slice_get-at (first ∷ xs) (suc at) x within is = slice_get-at xs at x (omega arith) is
