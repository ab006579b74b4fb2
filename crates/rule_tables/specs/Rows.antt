-- The row that each part is.
use Rattle.std.specs.Prelude.{◌≡◌, ℕ, zero, suc, ◌+◌, ◌-◌, ◌<◌, ◌≤◌, ◌||◌, ◌==◌, nat_lt, Bool, true, false, Option, Some, None, List, [], ◌∷◌, length, position, slice_get, take, option_map, unwrap_or, IfSome, if◌then◌else◌}
use Rattle.std.specs.Option.{option_and_then, option_or}
use Rattle.rule_parts.specs.declared.Part.{Part}
use Rattle.rule_parts.specs.declared.Part.TheVariants as part
use Rattle.rule_parts.specs.declared.Association.{Association}
use Rattle.rule_parts.specs.declared.Association.TheVariants.{Neither}
use Rattle.rule_grammar.specs.declared.part.Part as row
use Rattle.rule_grammar.specs.declared.part.Part.TheVariants.{Nothing, Token, Word, Class, Name, Node, Becomes, Is, Guard, Look, Choice, Arm, Optional, Repeat, List as Items, Call, Operators, Operand, Tail, Some as Once}
use Rattle.rule_grammar.specs.Parts.{part_at}
use Rattle.squawk_kinds.specs.Kinds.{ERROR}
use Rattle.rule_tables.specs.declared.outer.Outer.{Outer}
use Rattle.rule_tables.specs.Classes.{members_of}
use Rattle.rule_tables.specs.Definitions.{class_number, classes_in, defined, definition_of, is_rule}
use Rattle.rule_tables.specs.Outer.{is_member, outer_at}
use Rattle.rule_tables.specs.Vocabulary.{Vocabulary}

-- how many parts are in one
abbrev pub size_of : Part → ℕ
size_of (part.Set own size) = size
size_of (part.Words own size) = size
size_of (part.Rule own message size) = size
size_of (part.Node size) = size
size_of (part.Is size) = size
size_of (part.Look size) = size
size_of (part.Choice size ordered) = size
size_of (part.Arm size) = size
size_of (part.Optional size greedy) = size
size_of (part.Repeat size greedy) = size
size_of (part.Some size greedy) = size
size_of (part.List size separator) = size
size_of (part.Operators size) = size
size_of (part.Tail level association size) = size
size_of p = 0

-- the level of an operator, or the least one in an operand
abbrev pub level_of : Part → ℕ
level_of (part.Tail level association size) = level
level_of (part.Operand floor) = floor
level_of p = 0

-- the row after the last one in part i, if it has this size
abbrev pub end_of : ℕ → ℕ → ℕ
end_of i size = i + 1 + size

-- There are at most 65,000 parts, also by their sizes, and the levels are at most that.
abbrev pub AreSmall : List Part → Type 0
AreSmall parts = (i : ℕ) (p : Part) → slice_get parts i ≡ Some p → (end_of i (size_of p) ≤ 65000) × (level_of p ≤ 65000)

-- the call of the rule that part i is, if it is one: its rows
abbrev pub call_of_rule : ℕ → Option Part → Option row.Part
call_of_rule i (Some (part.Rule own message size)) = Some (Call (i + 1) (end_of i size))
call_of_rule i part = None

-- the call of the rule at an index, if there is one
abbrev pub call_of : List Part → Option ℕ → Option row.Part
call_of parts None = None
call_of parts (Some i) = call_of_rule i (slice_get parts i)

-- the row of the first rule, or 0
abbrev pub file_row : List Part → ℕ
file_row parts = unwrap_or (position (λ p. is_rule (Some p)) parts) 0

-- The rule of a file is the first one, if there is one.
abbrev pub IsFileRule : List Part → ℕ → ℕ → Type 0
IsFileRule parts start end = IfSome (call_of parts (position (λ p. is_rule (Some p)) parts)) (λ call. call ≡ Call start end)

-- a token of a set, which gets the kind, if there is one
abbrev pub token_row : ℕ → Option ℕ → row.Part
token_row set None = Class set
token_row set (Some kind) = Name kind set

-- the kind that a member of a class names, if it does, and the first one that some members name
abbrev pub kind_name : Part → Option (List ℕ)
kind_name (part.Becomes name) = Some name.text.now
kind_name p = None

abbrev pub named_kind : List Part → Option (List ℕ)
named_kind [] = None
named_kind (p ∷ ps) = option_or (kind_name p) (named_kind ps)

-- a token of the class that part i is, if it is one: one that gets the kind which the class names, or an identifier
abbrev pub class_row : Vocabulary → List Part → ℕ → Option Part → row.Part
class_row v parts i (Some (part.Set own size)) = token_row (classes_in (take i parts)) (option_and_then v.token (named_kind (members_of parts i size)))
class_row v parts i (Some (part.Words own size)) = Word (classes_in (take i parts))
class_row v parts i part = Nothing

-- a token of the class at an index, if there is one
abbrev pub class_of : Vocabulary → List Part → Option ℕ → row.Part
class_of v parts None = Nothing
class_of v parts (Some i) = class_row v parts i (slice_get parts i)

-- a guard by the numbers of its classes
abbrev pub guard_of : Option ℕ → Option ℕ → row.Part
guard_of None next = Nothing
guard_of (Some first) None = Nothing
guard_of (Some first) (Some next) = Guard first next

-- the guard that a part is, if it is one
abbrev pub guard_row : List Part → Option Part → row.Part
guard_row parts (Some (part.Guard own first next)) = guard_of (class_number parts first.text.now) (class_number parts next.text.now)
guard_row parts part = Nothing

-- the greatest level of an operator after one of this level that stands between two operands
abbrev pub ceiling : Association → ℕ → ℕ
ceiling Neither level = level - 1
ceiling association level = level

abbrev pub is_operand : Option Part → Bool
is_operand (Some (part.Operand floor)) = true
is_operand part = false

-- whether an operand is among n parts from part i on
abbrev pub has_operand : List Part → ℕ → ℕ → Bool
has_operand parts i zero = false
has_operand parts i (suc n) = is_operand (slice_get parts i) || has_operand parts (i + 1) n

-- The greatest level of an operator after one of this level, with so many parts from part i on: any, where no operand is
-- among them, so that nothing on its right could be the left operand.
abbrev pub ceiling_after : List Part → ℕ → ℕ → Association → ℕ → ℕ
ceiling_after parts i size association level = if has_operand parts i size then ceiling association level else 65535

-- a row, if a name stands for one
abbrev pub or_nothing : Option row.Part → row.Part
or_nothing found = unwrap_or found Nothing

-- The row of part i, which is no member of a class. The operators before it stand at `operators`.
abbrev pub row_of : Vocabulary → List Part → ℕ → ℕ → Part → row.Part
-- definitions, and what is in a class alone
row_of v parts operators i (part.Set own size) = Nothing
row_of v parts operators i (part.Words own size) = Nothing
row_of v parts operators i (part.Guard own first next) = Nothing
row_of v parts operators i part.Without = Nothing
-- a rule is an arm that stands in no choice
row_of v parts operators i (part.Rule own message size) = Arm (end_of i size)
-- what names stand for
row_of v parts operators i (part.Token name) = or_nothing (option_map Token (v.token name.text.now))
row_of v parts operators i (part.Becomes name) = or_nothing (option_map Becomes (v.node name.text.now))
row_of v parts operators i (part.Kind name) = or_nothing (option_map Becomes (v.node name.text.now))
row_of v parts operators i (part.List size separator) = or_nothing (option_map (Items (end_of i size)) (v.token separator.text.now))
row_of v parts operators i (part.Class name) = class_of v parts (definition_of parts name.text.now)
row_of v parts operators i (part.Call name) = or_nothing (call_of parts (definition_of parts name.text.now))
row_of v parts operators i (part.Guarded name) = guard_row parts (defined parts name.text.now)
-- the others
row_of v parts operators i (part.Node size) = Node (end_of i size) ERROR
row_of v parts operators i (part.Is size) = Is (end_of i size)
row_of v parts operators i (part.Look size) = Look (end_of i size)
row_of v parts operators i (part.Choice size ordered) = Choice (end_of i size)
row_of v parts operators i (part.Arm size) = Arm (end_of i size)
row_of v parts operators i (part.Optional size greedy) = Optional (end_of i size)
row_of v parts operators i (part.Repeat size greedy) = Repeat (end_of i size)
row_of v parts operators i (part.Some size greedy) = Once (end_of i size)
row_of v parts operators i (part.Operators size) = Operators (end_of i size)
row_of v parts operators i (part.Tail level association size) = Tail (end_of i size) level (ceiling_after parts (i + 1) size association level)
row_of v parts operators i (part.Operand floor) = Operand operators floor

-- The row of part i. A member of a class is nothing.
abbrev pub row_by : Vocabulary → List Part → Outer → ℕ → Part → row.Part
row_by v parts outer i p = if is_member outer i then Nothing else row_of v parts outer.operators i p

-- the row of part i, if there is such a part
abbrev pub row_at : Vocabulary → List Part → ℕ → Option row.Part
row_at v parts i = option_map (row_by v parts (outer_at parts i) i) (slice_get parts i)

-- the items of a list, as far as n, are those that a function gives for their indices
abbrev pub ListsSome : {X : Type 0} → (ℕ → Option X) → ℕ → List X → Type 0
ListsSome f n xs = (i : ℕ) → i < n → slice_get xs i ≡ f i

-- the rows of all parts
abbrev pub AreRows : Vocabulary → List Part → List row.Part → Type 0
AreRows v parts rows = ListsSome (row_at v parts) (length parts) rows

-- ---- rows as numbers

-- the number 0 of an operator
abbrev pub tail_tag : ℕ → ℕ → ℕ
tail_tag level top = if top == level then 17 else if nat_lt top level then 18 else 19

-- whether the numbers of a row can say all of it
abbrev pub is_exact : row.Part → Bool
is_exact (Tail end level top) = (top == level) || (top == level - 1) || (top == 65535)
is_exact part = true

-- what the rows of a table say: these parts
abbrev pub SayRows : List row.Part → List (List ℕ) → Type 0
SayRows rows numbers = ListsSome (λ i. Some (part_at numbers i)) (length rows) rows

-- The rows of a table are those of the parts.
abbrev pub HasRows : Vocabulary → List Part → List (List ℕ) → Type 0
HasRows v parts numbers = (i : ℕ) → i < length parts → row_at v parts i ≡ Some (part_at numbers i)
