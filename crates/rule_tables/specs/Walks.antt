-- What a walk over places keeps, and what it finds.
use Rattle.std.specs.Prelude.{◌≡◌, ℕ, ◌+◌, ◌*◌, ◌<◌, ◌≤◌, ◌==◌, ◌⊎◌, ◌↔◌, true, Some, List, [], ◌∷◌, length, slice_get, slice_index}
use Rattle.std.specs.List.{All, count_by}
use Rattle.squawk_kinds.specs.TokenSets.{has}
use Rattle.squawk_kinds.specs.declared.token_set.TokenSet.{TokenSet}
use Rattle.rule_tables.specs.Places.{IsOneOf, Leads, Moves, Plan, Sees, SeesFrom, does_eat, led_to}
use Rattle.rule_tables.specs.declared.place.Place.{Place}
use Rattle.rule_tables.specs.declared.place.Place.TheVariants.{Before, After, Separator, End}
use Rattle.rule_grammar.specs.declared.part.Part.{Part}
use Rattle.rule_tables.specs.declared.place.Way.{Way}
use Rattle.rule_tables.specs.declared.map.Map.{Map}
use Rattle.rule_tables.specs.declared.walk.Walk.{Walk}

-- the rows of a map
abbrev pub plan_of : Map → Plan
plan_of map = record { rows = map.rows.now; sets = map.sets.now; start = map.start }

-- the number of the mark of a place
abbrev pub slot : Place → ℕ
slot (Before k) = 3 * k + 1
slot (After k) = 3 * k + 2
slot (Separator k) = 3 * k + 3
slot End = 0

-- how many marks n rows have
abbrev pub slots : ℕ → ℕ
slots n = 3 * n + 1

-- a walk: what has its mark was reached, and so many places have it
pub record IsWalking (walk : Walk) : Type 0 where
  pub begun : 0 < walk.number
  pub noted : (p : Place) → slice_index walk.marks.items (slot p) ≡ walk.number → IsOneOf walk.reached.items p
  pub count : count_by (λ mark. mark == walk.number) walk.marks.items ≡ length walk.reached.items

-- places are reached after others: all that are such and have a mark, and no others
pub record Reaches (marks : ℕ) (old new : List Place) (Such : Place → Type 0) : Type 0 where
  pub longer : length old ≤ length new
  pub same : (i : ℕ) → i < length old → slice_get new i ≡ slice_get old i
  pub only : (i : ℕ) (p : Place) → slice_get new i ≡ Some p → (i < length old) ⊎ Such p
  pub all : (p : Place) → Such p → slot p < marks → IsOneOf new p

-- the place of a row that leads so to row h of the rows
pub record IsLedWithin (rows : List Part) (way : Way) (h : ℕ) (q : Place) : Type 0 where
  pub within : h < length rows
  pub row : ℕ
  pub leads : Leads rows way h row
  pub is : q ≡ led_to way row

-- a step of a walk
pub record Goes (old new : Walk) (Such : Place → Type 0) : Type 0 where
  pub len : length new.marks.items ≡ length old.marks.items
  pub walks : IsWalking old → IsWalking new
  pub reaches : IsWalking old → Reaches (length old.marks.items) old.reached.items new.reached.items Such

-- a walk over these rows has reached what is such, so far
pub record HasReached (plan : Plan) (walk : Walk) (Such : Place → Type 0) : Type 0 where
  pub walks : IsWalking walk
  pub len : length walk.marks.items ≡ slots (length plan.rows)
  pub reaches : Reaches (slots (length plan.rows)) [] walk.reached.items Such

-- all places are reached that lead on from these
pub record IsClosed (plan : Plan) (seeds reached : List Place) : Type 0 where
  pub has : (p : Place) → IsOneOf seeds p → IsOneOf reached p
  pub moved : (p q : Place) → IsOneOf reached p → Moves plan p q → slot q < slots (length plan.rows) → IsOneOf reached q
  pub sound : (p : Place) → IsOneOf reached p → (word : List ℕ) → Sees plan p word → SeesFrom plan seeds word

-- places that eat, and the words that come from them: such words, and all of them
pub record AreFirst (plan : Plan) (Such : List ℕ → Type 0) (places : List Place) : Type 0 where
  pub eat : All (λ p. does_eat plan p ≡ true) places
  pub only : (kind : ℕ) (word : List ℕ) → SeesFrom plan places (kind ∷ word) → Such (kind ∷ word)
  pub all : (kind : ℕ) (word : List ℕ) → Such (kind ∷ word) → SeesFrom plan places (kind ∷ word)

-- the kinds that may come next at a place
abbrev pub AreNext : Plan → Place → TokenSet → Type 0
AreNext plan p kinds = (kind : ℕ) → (has kinds kind ≡ true) ↔ Sees plan p (kind ∷ [])
