-- What is left of an iterator over elements, for loops over one.
use Rattle.std.proofs.Common.{◌≡◌, ℕ, List, [], ◌∷◌, map, refl}
use Rattle.syntax_tree.specs.Layout.{Laid}
use Rattle.syntax_tree.specs.Views.{At, place_in}

-- what is left of a walk over places begins with one of them
pub record BeginsAt (laid : Laid) (places : List ℕ) (place : At) (rest : List At) : Type 0 where
  pub at : ℕ
  pub behind : List ℕ
  pub is : places ≡ at ∷ behind
  pub place_is : place ≡ place_in laid at
  pub rest_is : rest ≡ map (place_in laid) behind

pub begins : (laid : Laid) (places : List ℕ) (place : At) (rest : List At) → map (place_in laid) places ≡ place ∷ rest → BeginsAt laid places place rest
begins laid [] place rest e = cc
begins laid (at ∷ behind) place rest e = record { at = at; behind = behind; is = refl; place_is = cc; rest_is = cc }

-- nothing is left of a walk over none
pub no_places : (laid : Laid) (places : List ℕ) → map (place_in laid) places ≡ [] → places ≡ []
no_places laid [] e = refl
no_places laid (at ∷ behind) e = cc
