-- Rows that may eat nothing.
use Rattle.std.specs.Prelude.{◌≡◌, ℕ, ◌+◌, Bool, true, List}
use Rattle.rule_grammar.specs.declared.part.Part as part
use Rattle.rule_grammar.specs.declared.part.Part.TheVariants.{Token, Word, Class, Name, Node, Choice, Arm, Repeat, List as Items, Call, Operators, Operand, Tail, Some as Once}
use Rattle.rule_checks.specs.Rows.{Beside, row_at}

abbrev pub IsArm : part.Part → Type 0
IsArm (Arm end) = Unit {0}
IsArm part = ⊥

-- All rows beside one another have a property, and an arm that stands there has it.
abbrev pub AllHave : List part.Part → (ℕ → Type 0) → ℕ → ℕ → Type 0
AllHave rows P start end = (m : ℕ) → Beside rows start end m → P m

abbrev pub SomeArmHas : List part.Part → (ℕ → Type 0) → ℕ → ℕ → Type 0
SomeArmHas rows P start end = (m : ℕ) × Beside rows start end m × IsArm (row_at rows m) × P m

-- what must eat nothing so that a part does: rows beside one another, an arm that stands there, a row, nothing; or it
-- never does
pub data Needs : Type 0 where
  all : ℕ → ℕ → Needs
  arm : ℕ → ℕ → Needs
  row : ℕ → Needs
  nothing : Needs
  never : Needs

abbrev pub needs : ℕ → part.Part → Needs
needs k (Node end kind) = all (k + 1) end
needs k (Arm end) = all (k + 1) end
needs k (Tail end level ceiling) = all (k + 1) end
needs k (Once end) = all (k + 1) end
needs k (Items end separator) = all (k + 1) end
needs k (Call start end) = all start end
needs k (Choice end) = arm (k + 1) end
needs k (Operators end) = arm (k + 1) end
needs k (Operand operators floor) = row operators
needs k (Token kind) = never
needs k (Word set) = never
needs k (Class set) = never
needs k (Name kind set) = never
needs k part = nothing

-- Those have a property.
abbrev pub HaveAll : List part.Part → (ℕ → Type 0) → Needs → Type 0
HaveAll rows P (all start end) = AllHave rows P start end
HaveAll rows P (arm start end) = SomeArmHas rows P start end
HaveAll rows P (row m) = P m
HaveAll rows P nothing = Unit {0}
HaveAll rows P never = ⊥

-- Row k eats nothing if rows with a property do.
abbrev pub EatsNothingBy : List part.Part → (ℕ → Type 0) → ℕ → Type 0
EatsNothingBy rows P k = HaveAll rows P (needs k (row_at rows k))

-- Row k may eat nothing: it eats nothing if some rows do, and each of those may.
pub data Empty (rows : List part.Part) : ℕ → Type 0 where
  empty : {k : ℕ} (others : ℕ → Bool) → EatsNothingBy rows (λ m. others m ≡ true) k → ((m : ℕ) → others m ≡ true → Empty rows m) → Empty rows k

-- A set has each row that eats nothing if its rows do.
abbrev pub IsClosed : List part.Part → (ℕ → Bool) → Type 0
IsClosed rows set = (i : ℕ) → EatsNothingBy rows (λ m. set m ≡ true) i → set i ≡ true

-- Row k repeats what may eat nothing.
abbrev pub RepeatsNothing : List part.Part → ℕ → part.Part → Type 0
RepeatsNothing rows k (Repeat end) = AllHave rows (Empty rows) (k + 1) end
RepeatsNothing rows k (Once end) = AllHave rows (Empty rows) (k + 1) end
RepeatsNothing rows k (Items end separator) = AllHave rows (Empty rows) (k + 1) end
RepeatsNothing rows k part = ⊥

abbrev pub IsEmptyRepeat : List part.Part → ℕ → Type 0
IsEmptyRepeat rows k = RepeatsNothing rows k (row_at rows k)
