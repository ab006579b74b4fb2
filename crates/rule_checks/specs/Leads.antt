-- Which rows are entered first from a row.
use Rattle.std.specs.Prelude.{◌≡◌, ℕ, ◌+◌, ◌⊎◌, List}
use Rattle.rule_grammar.specs.declared.part.Part as part
use Rattle.rule_grammar.specs.declared.part.Part.TheVariants.{Node, Choice, Arm, Optional, Repeat, List as Items, Call, Operators, Operand, Tail, Some as Once}
use Rattle.rule_checks.specs.Rows.{Beside, First, row_at}
use Rattle.rule_checks.specs.Empty.{Empty, IsArm}
use Rattle.rule_checks.specs.Steps.{After}

abbrev pub IsOperator : part.Part → Type 0
IsOperator (Tail end level ceiling) = Unit {0}
IsOperator part = ⊥

-- An arm begins, and so does an operator where its operand may be empty.
abbrev pub Begins : Type 0 → part.Part → Type 0
Begins may_be_empty part = IsArm part ⊎ (may_be_empty × IsOperator part)

-- From part k row m is entered first: what is in it up to the first row that eats; its arms; its operators.
abbrev pub PartLeads : List part.Part → ℕ → part.Part → ℕ → Type 0
PartLeads rows k (Node end kind) m = First rows (Empty rows) end (k + 1) m
PartLeads rows k (Arm end) m = First rows (Empty rows) end (k + 1) m
PartLeads rows k (Tail end level ceiling) m = First rows (Empty rows) end (k + 1) m
PartLeads rows k (Optional end) m = First rows (Empty rows) end (k + 1) m
PartLeads rows k (Repeat end) m = First rows (Empty rows) end (k + 1) m
PartLeads rows k (Once end) m = First rows (Empty rows) end (k + 1) m
PartLeads rows k (Items end separator) m = First rows (Empty rows) end (k + 1) m
PartLeads rows k (Call start end) m = First rows (Empty rows) end start m
PartLeads rows k (Choice end) m = Beside rows (k + 1) end m × IsArm (row_at rows m)
PartLeads rows k (Operators end) m = Beside rows (k + 1) end m × Begins (Empty rows k) (row_at rows m)
PartLeads rows k (Operand operators floor) m = m ≡ operators
PartLeads rows k part m = ⊥

abbrev pub Leads : List part.Part → ℕ → ℕ → Type 0
Leads rows k m = PartLeads rows k (row_at rows k) m

abbrev pub IsCall : part.Part → Type 0
IsCall (Call start end) = Unit {0}
IsCall (Operand operators floor) = Unit {0}
IsCall part = ⊥

-- Row k calls a rule, from which parsing comes back to it without eating.
pub record IsLeftRecursive (rows : List part.Part) (k : ℕ) : Type 0 where
  pub call : IsCall (row_at rows k)
  pub back : After (Leads rows) k k
