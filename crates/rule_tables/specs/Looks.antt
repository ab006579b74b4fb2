-- What decides between two ways.
use Rattle.std.specs.Prelude.{◌≡◌, ℕ, ◌<◌, ◌⊎◌, true, Some, List, slice_get}
use Rattle.squawk_kinds.specs.TokenSets.{has}
use Rattle.squawk_kinds.specs.declared.token_set.TokenSet.{TokenSet}
use Rattle.rule_tables.specs.Places.{IsOneOf, Plan, eats}
use Rattle.rule_tables.specs.declared.place.Place.{Place}

-- a set has a kind
pub record HasOne (sets : List TokenSet) (kind : ℕ) : Type 0 where
  pub index : ℕ
  pub set : TokenSet
  pub is : slice_get sets index ≡ Some set
  pub holds : has set kind ≡ true

-- sets with all kinds of these, and each with kinds of one of these
pub record IsFiner (sets cut : List TokenSet) : Type 0 where
  pub keeps : (kind : ℕ) → HasOne sets kind → HasOne cut kind
  pub within : (i : ℕ) (set : TokenSet) → slice_get cut i ≡ Some set → (j : ℕ) × (old : TokenSet) × (slice_get sets j ≡ Some old) × ((kind : ℕ) → has set kind ≡ true → has old kind ≡ true)

-- and each set with kinds that pass a test, or with kinds that don't
pub record IsCut (sets : List TokenSet) (kinds : TokenSet) (cut : List TokenSet) : Type 0 where
  pub finer : IsFiner sets cut
  pub alike : (i : ℕ) (set : TokenSet) → slice_get cut i ≡ Some set → (a b : ℕ) → has set a ≡ true → has set b ≡ true → has kinds a ≡ has kinds b

-- a set is added, if it has a kind
pub record AddsSome (sets : List TokenSet) (set : TokenSet) (new : List TokenSet) : Type 0 where
  pub keeps : (kind : ℕ) → HasOne sets kind → HasOne new kind
  pub adds : (kind : ℕ) → has set kind ≡ true → HasOne new kind
  pub only : (i : ℕ) (one : TokenSet) → slice_get new i ≡ Some one → (slice_get sets i ≡ Some one) ⊎ (one ≡ set)

-- the kinds of a set are eaten at the same ones of some places
abbrev pub IsAlike : Plan → List Place → TokenSet → Type 0
IsAlike plan places set = (a b : ℕ) → has set a ≡ true → has set b ≡ true → (p : Place) → IsOneOf places p → eats plan p a ≡ eats plan p b

-- and each set with kinds that are eaten at the same ones of the first n places
pub record AreAlike (plan : Plan) (places : List Place) (n : ℕ) (sets cut : List TokenSet) : Type 0 where
  pub finer : IsFiner sets cut
  pub alike : (i : ℕ) (set : TokenSet) → slice_get cut i ≡ Some set → (a b : ℕ) → has set a ≡ true → has set b ≡ true → (k : ℕ) → k < n → (p : Place) → slice_get places k ≡ Some p → eats plan p a ≡ eats plan p b
