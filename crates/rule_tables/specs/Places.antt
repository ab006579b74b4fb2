-- Places in rules, where parsing goes from each, and which kinds of tokens may come.
use Rattle.std.specs.Prelude.{◌≡◌, ℕ, zero, suc, ◌+◌, ◌-◌, ◌<◌, nat_lt, max, Bool, true, false, Option, Some, None, List, [], ◌∷◌, length, map, slice_get, if◌then◌else◌, ◌⊎◌}
use Rattle.squawk_kinds.specs.Kinds.{EOF, IDENT}
use Rattle.squawk_kinds.specs.declared.token_set.TokenSet.{TokenSet}
use Rattle.rule_grammar.specs.declared.part.Part.{Part}
use Rattle.rule_grammar.specs.declared.part.Part.TheVariants.{Nothing, Token, Word, Class, Name, Node, Becomes, Is, Guard, Look, Choice, Arm, Optional, Repeat, List as Items, Call, Operators, Operand, Tail, Some as Once}
use Rattle.rule_grammar.specs.Parts.{bit_of}
use Rattle.rule_tables.specs.Classes.{is_token, list_has}
use Rattle.rule_tables.specs.declared.place.Place.{Place}
use Rattle.rule_tables.specs.declared.place.Place.TheVariants.{Before, After, Separator, End}
use Rattle.rule_tables.specs.declared.place.Way.{Way}
use Rattle.rule_tables.specs.declared.place.Way.TheVariants as way

-- rows, the sets of their classes, and the row of the rule of a file
pub record Plan : Type 0 where
  pub rows : List Part
  pub sets : List TokenSet
  pub start : ℕ

-- ---- how rows stand in one another

-- the row after the last one in a row, or 0
abbrev pub end_in : Option Part → ℕ
end_in (Some (Node end kind)) = end
end_in (Some (Choice end)) = end
end_in (Some (Arm end)) = end
end_in (Some (Optional end)) = end
end_in (Some (Repeat end)) = end
end_in (Some (Once end)) = end
end_in (Some (Items end separator)) = end
end_in (Some (Operators end)) = end
end_in (Some (Is end)) = end
end_in (Some (Look end)) = end
end_in (Some (Tail end level top)) = end
end_in row = 0

abbrev pub end_at : List Part → ℕ → ℕ
end_at rows k = end_in (slice_get rows k)

-- the greatest number below n that passes a test
abbrev pub last_below : (ℕ → Bool) → ℕ → Option ℕ
last_below p zero = None
last_below p (suc n) = if p n then Some n else last_below p n

-- the row that row k is in: the last one before it whose end is after it
abbrev pub outer_of : List Part → ℕ → Option ℕ
outer_of rows k = last_below (λ o. nat_lt k (end_at rows o)) k

-- the first row in row k, if there is one
abbrev pub first_in : List Part → ℕ → Option ℕ
first_in rows k = if nat_lt (k + 1) (end_at rows k) then Some (k + 1) else None

-- the row after row k and all that is in it, if it is in row o, too
abbrev pub next_in : List Part → ℕ → ℕ → Option ℕ
next_in rows k o = if nat_lt (max (end_at rows k) (k + 1)) (end_at rows o) then Some (max (end_at rows k) (k + 1)) else None

-- whether a row leads so to another
abbrev pub leads_as : Way → Option Part → Bool
leads_as way.Arm (Some (Arm end)) = true
leads_as way.Tail (Some (Tail end level top)) = true
leads_as way.Call (Some (Call start end)) = true
leads_as way.Call (Some (Operand operators floor)) = true
leads_as way row = false

-- the row that row k leads to, where it is this one: an arm or an operator to the one that it is in, a call or an
-- operand to the one that it names
abbrev pub goal_of : List Part → ℕ → Option Part → Option ℕ
goal_of rows k (Some (Arm end)) = outer_of rows k
goal_of rows k (Some (Tail end level top)) = outer_of rows k
goal_of rows k (Some (Call start end)) = Some (start - 1)
goal_of rows k (Some (Operand operators floor)) = Some operators
goal_of rows k row = None

-- row k leads so to row h
pub record Leads (rows : List Part) (way : Way) (h k : ℕ) : Type 0 where
  pub by : leads_as way (slice_get rows k) ≡ true
  pub goal : goal_of rows k (slice_get rows k) ≡ Some h

-- ---- where parsing goes without eating a token

-- before a row, if there is one
abbrev pub IsBefore : Option ℕ → Place → Type 0
IsBefore None q = ⊥
IsBefore (Some k) q = q ≡ Before k

-- the place that a row leads to: before an arm or an operator, after a call
abbrev pub led_to : Way → ℕ → Place
led_to way.Call k = After k
led_to way k = Before k

-- the place of a row that leads so to row h
pub record IsLed (rows : List Part) (way : Way) (h : ℕ) (q : Place) : Type 0 where
  pub row : ℕ
  pub leads : Leads rows way h row
  pub is : q ≡ led_to way row

-- after a call of row h, or at the end after the rule of a file
abbrev pub Returns : Plan → ℕ → Place → Type 0
Returns plan h q = IsLed plan.rows way.Call h q ⊎ ((h ≡ plan.start) × (q ≡ End))

-- out of row k, which is this one: after it, or to its first row again, or to its separator
abbrev pub Leaves : List Part → ℕ → Option Part → Place → Type 0
Leaves rows k None q = ⊥
Leaves rows k (Some (Repeat end)) q = IsBefore (first_in rows k) q ⊎ (q ≡ After k)
Leaves rows k (Some (Once end)) q = IsBefore (first_in rows k) q ⊎ (q ≡ After k)
Leaves rows k (Some (Items end separator)) q = (q ≡ Separator k) ⊎ (q ≡ After k)
Leaves rows k (Some row) q = q ≡ After k

-- into row k, of which this is the first: or out of it if there is none
abbrev pub Begins : List Part → ℕ → Option ℕ → Place → Type 0
Begins rows k None q = Leaves rows k (slice_get rows k) q
Begins rows k (Some first) q = q ≡ Before first

-- from before row k, which is this one
abbrev pub Enters : List Part → ℕ → Option Part → Place → Type 0
Enters rows k None q = ⊥
Enters rows k (Some (Token kind)) q = ⊥
Enters rows k (Some (Word set)) q = ⊥
Enters rows k (Some (Class set)) q = ⊥
Enters rows k (Some (Name renamed set)) q = ⊥
Enters rows k (Some (Choice end)) q = IsLed rows way.Arm k q
Enters rows k (Some (Operators end)) q = IsLed rows way.Arm k q
Enters rows k (Some (Operand operators floor)) q = IsLed rows way.Arm operators q
Enters rows k (Some (Optional end)) q = (q ≡ After k) ⊎ Begins rows k (first_in rows k) q
Enters rows k (Some (Repeat end)) q = (q ≡ After k) ⊎ Begins rows k (first_in rows k) q
Enters rows k (Some (Call start end)) q = Begins rows (start - 1) (first_in rows (start - 1)) q
Enters rows k (Some (Becomes kind)) q = q ≡ After k
Enters rows k (Some (Is end)) q = q ≡ After k
Enters rows k (Some (Guard first next)) q = q ≡ After k
Enters rows k (Some (Look end)) q = q ≡ After k
Enters rows k (Some Nothing) q = q ≡ After k
Enters rows k (Some row) q = Begins rows k (first_in rows k) q

-- from after row k in row o: to the next row in that, or out of it
abbrev pub GoesOn : List Part → ℕ → Option ℕ → Place → Type 0
GoesOn rows o None q = Leaves rows o (slice_get rows o) q
GoesOn rows o (Some next) q = q ≡ Before next

abbrev pub GoesOnIn : List Part → ℕ → Option ℕ → Place → Type 0
GoesOnIn rows k None q = ⊥
GoesOnIn rows k (Some o) q = GoesOn rows o (next_in rows k o) q

-- from after arm or operator k in row o, which is this one: after a choice; after operators, to each of these, and to
-- where they are called. If it is in neither, it is a rule
abbrev pub EndsWay : Plan → ℕ → ℕ → Option Part → Place → Type 0
EndsWay plan k o (Some (Choice end)) q = q ≡ After o
EndsWay plan k o (Some (Operators end)) q = (q ≡ After o) ⊎ (IsLed plan.rows way.Tail o q ⊎ Returns plan o q)
EndsWay plan k o row q = Returns plan k q

abbrev pub EndsWayIn : Plan → ℕ → Option ℕ → Place → Type 0
EndsWayIn plan k None q = Returns plan k q
EndsWayIn plan k (Some o) q = EndsWay plan k o (slice_get plan.rows o) q

-- from after row k, which is this one
abbrev pub Exits : Plan → ℕ → Option Part → Place → Type 0
Exits plan k None q = ⊥
Exits plan k (Some (Arm end)) q = EndsWayIn plan k (outer_of plan.rows k) q
Exits plan k (Some (Tail end level top)) q = EndsWayIn plan k (outer_of plan.rows k) q
Exits plan k (Some row) q = GoesOnIn plan.rows k (outer_of plan.rows k) q

-- from a place to another
abbrev pub Moves : Plan → Place → Place → Type 0
Moves plan (Before k) q = Enters plan.rows k (slice_get plan.rows k) q
Moves plan (After k) q = Exits plan k (slice_get plan.rows k) q
Moves plan (Separator k) q = ⊥
Moves plan End q = ⊥

-- ---- where a token is eaten

-- whether a row eats a token of a kind
abbrev pub row_eats : List TokenSet → Option Part → ℕ → Bool
row_eats sets (Some (Token one)) kind = is_token (Some (bit_of one)) kind
row_eats sets (Some (Word set)) kind = is_token (Some IDENT) kind
row_eats sets (Some (Class set)) kind = list_has sets set kind
row_eats sets (Some (Name renamed set)) kind = list_has sets set kind
row_eats sets row kind = false

-- whether a row is separated by a token of a kind
abbrev pub separates : Option Part → ℕ → Bool
separates (Some (Items end one)) kind = is_token (Some one) kind
separates row kind = false

-- whether a token of a kind is eaten at a place
abbrev pub eats : Plan → Place → ℕ → Bool
eats plan (Before k) kind = row_eats plan.sets (slice_get plan.rows k) kind
eats plan (After k) kind = false
eats plan (Separator k) kind = separates (slice_get plan.rows k) kind
eats plan End kind = is_token (Some EOF) kind

-- whether it is a row that eats
abbrev pub is_token_row : Option Part → Bool
is_token_row (Some (Token one)) = true
is_token_row (Some (Word set)) = true
is_token_row (Some (Class set)) = true
is_token_row (Some (Name renamed set)) = true
is_token_row row = false

-- whether a token is eaten at a place
abbrev pub does_eat : Plan → Place → Bool
does_eat plan (Before k) = is_token_row (slice_get plan.rows k)
does_eat plan (After k) = false
does_eat plan (Separator k) = true
does_eat plan End = true

-- from a place over the token that is eaten there
abbrev pub Steps : Plan → Place → Place → Type 0
Steps plan (Before k) q = q ≡ After k
Steps plan (After k) q = ⊥
Steps plan (Separator k) q = Begins plan.rows k (first_in plan.rows k) q
Steps plan End q = q ≡ End

-- from a place these kinds may come, one after another
pub data Sees (plan : Plan) : Place → List ℕ → Type 0 where
  nothing : {p : Place} → Sees plan p []
  moves : {p q : Place} {word : List ℕ} → Moves plan p q → Sees plan q word → Sees plan p word
  steps : {p q : Place} {kind : ℕ} {word : List ℕ} → eats plan p kind ≡ true → Steps plan p q → Sees plan q word → Sees plan p (kind ∷ word)

-- a place is one of these
pub record IsOneOf (places : List Place) (p : Place) : Type 0 where
  pub index : ℕ
  pub is : slice_get places index ≡ Some p

-- from one of these places these kinds may come
pub record SeesFrom (plan : Plan) (places : List Place) (word : List ℕ) : Type 0 where
  pub place : Place
  pub one : IsOneOf places place
  pub sees : Sees plan place word

-- ---- what is undecided

-- from before a later arm or operator, beside arm or operator k, these kinds may come
pub record SeesRival (plan : Plan) (way : Way) (k : ℕ) (word : List ℕ) : Type 0 where
  pub outer : ℕ
  pub rival : ℕ
  pub inside : outer_of plan.rows k ≡ Some outer
  pub beside : Leads plan.rows way outer rival
  pub later : k < rival
  pub sees : Sees plan (led_to way rival) word

-- these kinds come both ways
abbrev pub ComeBoth : (List ℕ → Type 0) → (List ℕ → Type 0) → List ℕ → Type 0
ComeBoth one other word = one word × other word

-- from before the first row in row k, and from after row k
abbrev pub ComesFirst : Plan → ℕ → Option ℕ → List ℕ → Type 0
ComesFirst plan k None = λ word. ⊥
ComesFirst plan k (Some first) = ComeBoth (Sees plan (Before first)) (Sees plan (After k))

-- these kinds come two ways at row k, which is this one
abbrev pub ComesTwoWays : Plan → ℕ → Option Part → List ℕ → Type 0
ComesTwoWays plan k (Some (Arm end)) = ComeBoth (Sees plan (Before k)) (SeesRival plan way.Arm k)
ComesTwoWays plan k (Some (Tail end level top)) = ComeBoth (Sees plan (Before k)) (SeesRival plan way.Tail k)
ComesTwoWays plan k (Some (Optional end)) = ComesFirst plan k (first_in plan.rows k)
ComesTwoWays plan k (Some (Repeat end)) = ComesFirst plan k (first_in plan.rows k)
ComesTwoWays plan k (Some (Once end)) = ComesFirst plan k (first_in plan.rows k)
ComesTwoWays plan k (Some (Items end separator)) = ComeBoth (Sees plan (Separator k)) (Sees plan (After k))
ComesTwoWays plan k row = λ word. ⊥

-- some kinds are such, so many
pub record AreShared (count : ℕ) (Such : List ℕ → Type 0) : Type 0 where
  pub word : List ℕ
  pub len : length word ≡ count
  pub such : Such word

-- four kinds that are told are such, where sets have composite kinds by those that stand for them
abbrev pub AreTold : (List ℕ → Type 0) → List ℕ → Type 0
AreTold Such kinds = (length kinds ≡ 4) × Such (map bit_of kinds)

abbrev pub IsUndecidedRow : Plan → ℕ → Option Part → Type 0
IsUndecidedRow plan k row = AreShared 4 (ComesTwoWays plan k row)

-- four tokens don't decide between two ways at row k
abbrev pub IsUndecided : Plan → ℕ → Type 0
IsUndecided plan k = IsUndecidedRow plan k (slice_get plan.rows k)
