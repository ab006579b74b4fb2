-- Ways that may be gone, and the kinds that come on each.
use Rattle.std.specs.Prelude.{◌≡◌, ℕ, ◌+◌, ◌<◌, ◌≤◌, ◌&&◌, ◌||◌, ◌⊎◌, ◌++◌, Bool, true, false, Option, Some, None, List, [], ◌∷◌, drop, length, map, slice_get, slice_set, take}
use Rattle.std.specs.List.{All, list_any}
use Rattle.squawk_kinds.specs.TokenSets.{has}
use Rattle.squawk_kinds.specs.declared.token_set.TokenSet.{TokenSet}
use Rattle.rule_grammar.specs.Parts.{bit_of}
use Rattle.rule_parts.specs.declared.Part as parts
use Rattle.rule_tables.specs.Forks.{IsUndecidedBy}
use Rattle.rule_tables.specs.Looks.{HasOne, IsAlike}
use Rattle.rule_tables.specs.Places.{AreShared, AreTold, ComeBoth, Leads, Plan, Sees, SeesFrom, does_eat, eats, led_to}
use Rattle.rule_tables.specs.Settled.{settles}
use Rattle.rule_tables.specs.Walks.{AreFirst}
use Rattle.rule_tables.specs.declared.error.RulesError.{RulesError}
use Rattle.rule_tables.specs.declared.error.RulesError.TheVariants.{Undecided}
use Rattle.rule_tables.specs.declared.place.Place.{Place}
use Rattle.rule_tables.specs.declared.place.Place.TheVariants.{After}
use Rattle.rule_tables.specs.declared.place.Way.{Way}
use Rattle.rule_tables.specs.declared.place.Way.TheVariants as way
use Rattle.rule_tables.specs.declared.strands.Strand.{Strand}
use Rattle.rule_tables.specs.declared.strands.Open.{Open}
use Rattle.rule_tables.specs.declared.strands.Found.{Found}
use Rattle.rule_tables.specs.declared.trail.Trail.{Trail}

-- ---- strands

-- places where a token is eaten, and the kinds that are eaten there
pub record IsStrand (plan : Plan) (strand : Strand) : Type 0 where
  pub eat : All (λ p. does_eat plan p ≡ true) strand.places.items
  pub are : (kind : ℕ) → has strand.kinds kind ≡ list_any (λ p. eats plan p kind) strand.places.items

-- all are such, and later rows come first
pub record AreStrands (plan : Plan) (strands : List Strand) : Type 0 where
  pub each : (i : ℕ) (s : Strand) → slice_get strands i ≡ Some s → IsStrand plan s
  pub fall : (i j : ℕ) (a b : Strand) → i < j → slice_get strands i ≡ Some a → slice_get strands j ≡ Some b → b.row < a.row

-- these kinds may come from the places of a row's strand
pub record SeesOn (plan : Plan) (strands : List Strand) (row : ℕ) (word : List ℕ) : Type 0 where
  pub index : ℕ
  pub strand : Strand
  pub is : slice_get strands index ≡ Some strand
  pub of : strand.row ≡ row
  pub from : SeesFrom plan strand.places.items word

-- strands of the rows at which some kinds come, which are those that come on each
pub record AreListed (plan : Plan) (Comes : ℕ → List ℕ → Type 0) (strands : List Strand) : Type 0 where
  pub are : AreStrands plan strands
  pub all : (row kind : ℕ) (word : List ℕ) → Comes row (kind ∷ word) → SeesOn plan strands row (kind ∷ word)
  pub only : (row kind : ℕ) (word : List ℕ) → SeesOn plan strands row (kind ∷ word) → Comes row (kind ∷ word)

-- a way by which a row is gone into: as an arm or an operator of another
pub data IsIn : Way → Type 0 where
  arm : IsIn way.Arm
  tail : IsIn way.Tail

-- on the way of row k, which leads so to row h, these kinds may come
pub record ComesOn (plan : Plan) (way : Way) (h k : ℕ) (word : List ℕ) : Type 0 where
  pub leads : Leads plan.rows way h k
  pub sees : Sees plan (led_to way k) word

-- at a part these kinds may come from a place, and at the row after it from after the part
abbrev pub ComesAt : Plan → Place → ℕ → ℕ → List ℕ → Type 0
ComesAt plan place part k word = ((k ≡ part) × Sees plan place word) ⊎ ((k ≡ part + 1) × Sees plan (After part) word)

-- a strand of a row, on which such kinds come
pub record IsStrandOf (plan : Plan) (Such : List ℕ → Type 0) (row : ℕ) (strand : Strand) : Type 0 where
  pub of : strand.row ≡ row
  pub is : IsStrand plan strand
  pub first : AreFirst plan Such strand.places.items

-- it is added after some, if a test passes
abbrev pub AddsStrand : Plan → Bool → (List ℕ → Type 0) → ℕ → List Strand → List Strand → Type 0
AddsStrand plan test Such row old new = ((test ≡ true) × (s : Strand) × IsStrandOf plan Such row s × (new ≡ old ++ s ∷ [])) ⊎ ((test ≡ false) × (new ≡ old))

-- ---- what they share

-- these kinds come at a later row
pub record ComesLater (Comes : ℕ → List ℕ → Type 0) (row : ℕ) (word : List ℕ) : Type 0 where
  pub later : ℕ
  pub after : row < later
  pub comes : Comes later word

-- so many kinds come at a row, and at a later one
abbrev pub ShareBoth : (ℕ → List ℕ → Type 0) → ℕ → ℕ → Type 0
ShareBoth Comes count row = AreShared count (ComeBoth (Comes row) (ComesLater Comes row))

-- before the row that is undecided, if one is
abbrev pub IsUpTo : Option Open → ℕ → Type 0
IsUpTo None row = Unit {0}
IsUpTo (Some one) row = row < one.row

-- not at the row that is undecided, and an error tells that it is at it
abbrev pub IsElsewhere : Option Open → ℕ → Type 0
IsElsewhere None row = Unit {0}
IsElsewhere (Some one) row = one.row ≡ row → ⊥

abbrev pub IsToldAt : Option Open → ℕ → RulesError → Type 0
IsToldAt None row reason = ⊥
IsToldAt (Some one) row reason = (one.row ≡ row) × (reason ≡ Undecided row one.kinds)

-- so many kinds decide at all rows before the one that is undecided, if they aren't settled
abbrev pub AreDecidedBy : Plan → List parts.Part → (ℕ → List ℕ → Type 0) → ℕ → Option Open → Type 0
AreDecidedBy plan parts Comes count found = (row : ℕ) → IsUpTo found row → settles parts plan.rows row ≡ false → ShareBoth Comes count row → ⊥

-- these kinds come at a row and at a later one, after those of a trail
pub record GoOnBoth (Comes : ℕ → List ℕ → Type 0) (row : ℕ) (trail : Trail) (word : List ℕ) : Type 0 where
  pub front : take trail.depth word ≡ take trail.depth (map bit_of trail.kinds)
  pub back : ComeBoth (Comes row) (ComesLater Comes row) (drop trail.depth word)

-- a row is undecided by the kinds that are told, and not settled
pub record IsUndecidedHere (plan : Plan) (parts : List parts.Part) (Comes : ℕ → List ℕ → Type 0) (trail : Trail) (one : Open) : Type 0 where
  pub settled : one.row < length plan.rows → settles parts plan.rows one.row ≡ false
  pub told : AreTold (GoOnBoth Comes one.row trail) one.kinds

-- the one that is undecided is so, if one is
abbrev pub IsToldBy : Plan → List parts.Part → (ℕ → List ℕ → Type 0) → Trail → Option Open → Type 0
IsToldBy plan parts Comes trail None = Unit {0}
IsToldBy plan parts Comes trail (Some one) = IsUndecidedHere plan parts Comes trail one

-- the same after a kind of a set
abbrev pub AreDecidedAfter : Plan → List parts.Part → List Strand → ℕ → TokenSet → Option Open → Type 0
AreDecidedAfter plan parts strands count group found = (kind : ℕ) → has group kind ≡ true → AreDecidedBy plan parts (λ row word. SeesOn plan strands row (kind ∷ word)) count found

-- four kinds that are told come two ways at the row that is undecided, if one is
abbrev pub IsWayUndecided : Plan → List parts.Part → Option Open → Type 0
IsWayUndecided plan parts None = Unit {0}
IsWayUndecided plan parts (Some one) = IsUndecidedBy plan parts one.row one.kinds

-- and all arms and operators in the first n rows are decided before it, or settled
pub record AreWaysDecided (plan : Plan) (parts : List parts.Part) (n : ℕ) (found : Option Open) : Type 0 where
  pub told : IsWayUndecided plan parts found
  pub arms : (h : ℕ) → h < n → AreDecidedBy plan parts (ComesOn plan way.Arm h) 4 found
  pub tails : (h : ℕ) → h < n → AreDecidedBy plan parts (ComesOn plan way.Tail h) 4 found

-- ---- what is found of some

-- one of the first n strands has a kind
pub record HasKind (strands : List Strand) (n kind : ℕ) : Type 0 where
  pub index : ℕ
  pub first : index < n
  pub strand : Strand
  pub is : slice_get strands index ≡ Some strand
  pub holds : has strand.kinds kind ≡ true

-- a row is the one that is undecided, and the kinds to one of a set are told; or the set is empty
abbrev pub IsOpenAfter : ℕ → Trail → TokenSet → Option Open → Option Open → Type 0
IsOpenAfter row trail shared before after =
    ((one : Open) × (kind : ℕ) × (after ≡ Some one) × (one.row ≡ row) × (has shared kind ≡ true) × (length one.kinds ≡ 4) × (map bit_of one.kinds ≡ slice_set (map bit_of trail.kinds) trail.depth kind))
    ⊎ ((after ≡ before) × ((kind : ℕ) → has shared kind ≡ false))

-- a strand shares a kind with later ones, whose kinds are known, and the kinds to it are told
pub record IsSharedBy (plan : Plan) (parts : List parts.Part) (strand : Strand) (trail : Trail) (later : TokenSet) (one : Open) : Type 0 where
  pub of : one.row ≡ strand.row
  pub settled : 3 ≤ trail.depth → strand.row < length plan.rows → settles parts plan.rows strand.row ≡ false
  pub kind : ℕ
  pub both : (has strand.kinds kind && has later kind) ≡ true
  pub len : length one.kinds ≡ 4
  pub told : map bit_of one.kinds ≡ slice_set (map bit_of trail.kinds) trail.depth kind

-- A strand more is found: its kinds are among the later ones, those that it shares among the shared ones, and it is the one
-- that is undecided, or it is settled or shares none.
pub record Tells (plan : Plan) (parts : List parts.Part) (strand : Strand) (trail : Trail) (before after : Found) : Type 0 where
  pub later : (kind : ℕ) → has after.later kind ≡ (has before.later kind || has strand.kinds kind)
  pub shared : trail.depth < 3 → (kind : ℕ) → has after.shared kind ≡ (has before.shared kind || (has strand.kinds kind && has before.later kind))
  pub told : ((one : Open) × (after.undecided ≡ Some one) × IsSharedBy plan parts strand trail before.later one) ⊎ ((after.undecided ≡ before.undecided) × (settles parts plan.rows strand.row ≡ false → (kind : ℕ) → (has strand.kinds kind && has before.later kind) ≡ true → ⊥))

-- the kinds that are told come on a strand, and on a later one
pub record IsSharedIn (plan : Plan) (parts : List parts.Part) (strands : List Strand) (trail : Trail) (one : Open) : Type 0 where
  pub index : ℕ
  pub strand : Strand
  pub is : slice_get strands index ≡ Some strand
  pub later : TokenSet
  pub known : (kind : ℕ) → has later kind ≡ true → HasKind strands index kind
  pub shared : IsSharedBy plan parts strand trail later one

-- of the one that is undecided, if one is
abbrev pub IsTold : Plan → List parts.Part → List Strand → Trail → Option Open → Type 0
IsTold plan parts strands trail None = Unit {0}
IsTold plan parts strands trail (Some one) = IsSharedIn plan parts strands trail one

-- the first n strands are found
pub record IsFound (plan : Plan) (parts : List parts.Part) (strands : List Strand) (trail : Trail) (n : ℕ) (found : Found) : Type 0 where
  pub later : (kind : ℕ) → HasKind strands n kind → has found.later kind ≡ true
  pub known : (kind : ℕ) → has found.later kind ≡ true → HasKind strands n kind
  pub shared : trail.depth < 3 → (i : ℕ) (s : Strand) → i < n → slice_get strands i ≡ Some s → (kind : ℕ) → has s.kinds kind ≡ true → HasKind strands i kind → has found.shared kind ≡ true
  pub decided : (i : ℕ) (s : Strand) → i < n → slice_get strands i ≡ Some s → IsUpTo found.undecided s.row → settles parts plan.rows s.row ≡ false → (kind : ℕ) → has s.kinds kind ≡ true → HasKind strands i kind → ⊥
  pub told : IsTold plan parts strands trail found.undecided

-- ---- sets of kinds that are eaten at the same places

-- the kinds of a set are eaten at the same places of each strand
abbrev pub AreAlikeOn : Plan → List Strand → TokenSet → Type 0
AreAlikeOn plan strands set = (i : ℕ) (s : Strand) → slice_get strands i ≡ Some s → IsAlike plan s.places.items set

-- sets that have all kinds of one, and whose kinds are so for the first n strands
pub record AreGroupsOn (plan : Plan) (strands : List Strand) (n : ℕ) (set : TokenSet) (groups : List TokenSet) : Type 0 where
  pub all : (kind : ℕ) → has set kind ≡ true → HasOne groups kind
  pub alike : (g : ℕ) (group : TokenSet) → slice_get groups g ≡ Some group → (i : ℕ) (s : Strand) → i < n → slice_get strands i ≡ Some s → IsAlike plan s.places.items group
