-- Parts that four tokens don't decide.
use Rattle.std.specs.Prelude.{◌≡◌, ℕ, ◌<◌, false, Some, List, slice_get}
use Rattle.rule_tables.specs.Rows.{file_row}
use Rattle.squawk_kinds.specs.declared.token_set.TokenSet.{TokenSet}
use Rattle.rule_grammar.specs.declared.part.Part.{Part}
use Rattle.rule_grammar.specs.declared.part.Part.TheVariants.{Arm, Tail}
use Rattle.rule_parts.specs.declared.Part as parts
use Rattle.rule_tables.specs.Limits.{IsLimit}
use Rattle.rule_tables.specs.Settled.{settles}
use Rattle.rule_tables.specs.Places.{AreTold, ComesTwoWays, IsUndecided, IsUndecidedRow, Plan}
use Rattle.rule_tables.specs.Walks.{plan_of}
use Rattle.rule_tables.specs.declared.error.RulesError.{RulesError}
use Rattle.rule_tables.specs.declared.error.RulesError.TheVariants.{Undecided}
use Rattle.rule_tables.specs.declared.looks.Fork.{Fork}

-- a part is not settled
abbrev pub IsOpenFork : Fork → Type 0
IsOpenFork fork = settles fork.parts.now fork.map.now.rows.now fork.part ≡ false

-- and undecided
abbrev pub IsOpenAt : Fork → Part → Type 0
IsOpenAt fork row = IsOpenFork fork × IsUndecidedRow (plan_of fork.map.now) fork.part (Some row)

-- a part isn't settled, and these kinds come two ways there
abbrev pub IsOpenBy : Fork → Part → List ℕ → Type 0
IsOpenBy fork row kinds = IsOpenFork fork × AreTold (ComesTwoWays (plan_of fork.map.now) fork.part (Some row)) kinds

-- row i is undecided, and not settled
abbrev pub IsOpen : Plan → List parts.Part → ℕ → Type 0
IsOpen plan parts i = (settles parts plan.rows i ≡ false) × IsUndecided plan i

-- row i, which is this one, is not, if it is an arm or an operator
abbrev pub IsDecidedWay : Plan → List parts.Part → ℕ → Part → Type 0
IsDecidedWay plan parts i (Arm end) = (settles parts plan.rows i ≡ false) × IsUndecidedRow plan i (Some (Arm end)) → ⊥
IsDecidedWay plan parts i (Tail end level top) = (settles parts plan.rows i ≡ false) × IsUndecidedRow plan i (Some (Tail end level top)) → ⊥
IsDecidedWay plan parts i row = Unit {0}

-- none of the first n rows is
abbrev pub AreDecided : Plan → List parts.Part → ℕ → Type 0
AreDecided plan parts n = (i : ℕ) → i < n → IsOpen plan parts i → ⊥

-- row i is not settled, and these kinds come two ways there
abbrev pub IsUndecidedBy : Plan → List parts.Part → ℕ → List ℕ → Type 0
IsUndecidedBy plan parts i kinds = (settles parts plan.rows i ≡ false) × AreTold (ComesTwoWays plan i (slice_get plan.rows i)) kinds

-- an error says that a row is, by which kinds, and that it is the first one; or it names nothing
abbrev pub IsFirstOpen : Plan → List parts.Part → RulesError → Type 0
IsFirstOpen plan parts (Undecided j kinds) = IsUndecidedBy plan parts j kinds × AreDecided plan parts j
IsFirstOpen plan parts reason = IsLimit reason

-- the rows of parts with the sets of their classes, and the row of the first rule
abbrev pub plan_in : List parts.Part → List Part → List TokenSet → Plan
plan_in parts rows sets = record { rows = rows; sets = sets; start = file_row parts }
