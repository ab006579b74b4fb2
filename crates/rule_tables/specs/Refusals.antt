-- Which parts are refused, and why.
use Rattle.std.specs.Prelude.{◌≡◌, ℕ, Some, None, List, length, ◌⊎◌}
use Rattle.squawk_kinds.specs.declared.token_set.TokenSet.{TokenSet}
use Rattle.rule_checks.specs.Empty.{IsEmptyRepeat}
use Rattle.rule_checks.specs.Leads.{IsLeftRecursive}
use Rattle.rule_checks.specs.Rules.{IsUnreached}
use Rattle.rule_checks.specs.Sets.{IsFirst}
use Rattle.rule_grammar.specs.declared.part.Part as row
use Rattle.rule_parts.specs.declared.Part.{Part}
use Rattle.rule_tables.specs.Classes.{AreClasses, list_has}
use Rattle.rule_tables.specs.Faults.{fault_of}
use Rattle.rule_tables.specs.Forks.{AreDecided, IsFirstOpen, plan_in}
use Rattle.rule_tables.specs.Places.{Plan}
use Rattle.rule_tables.specs.Rows.{AreRows, file_row}
use Rattle.rule_tables.specs.Vocabulary.{Vocabulary}
use Rattle.rule_tables.specs.declared.error.RulesError.{RulesError}
use Rattle.rule_tables.specs.declared.error.RulesError.TheVariants.{LeftRecursive, Empty, Undecided, Unreached, TooMany, Memory}

-- ---- faults of rows

-- no row leads back to itself, or repeats nothing
pub record NotEndless (rows : List row.Part) : Type 0 where
  pub moves : IsFirst (length rows) (IsLeftRecursive rows) None
  pub eats : IsFirst (length rows) (IsEmptyRepeat rows) None

-- the first row does that leads back to itself; if none does, the first that repeats nothing; or memory ran out
abbrev pub IsEndless : List row.Part → RulesError → Type 0
IsEndless rows (LeftRecursive j) = IsFirst (length rows) (IsLeftRecursive rows) (Some j)
IsEndless rows (Empty j) = IsFirst (length rows) (IsLeftRecursive rows) None × IsFirst (length rows) (IsEmptyRepeat rows) (Some j)
IsEndless rows (Memory reason) = Unit {0}
IsEndless rows reason = ⊥

-- the first rule that isn't reached; or memory ran out
abbrev pub IsLost : List row.Part → ℕ → RulesError → Type 0
IsLost rows file (Unreached j) = IsFirst (length rows) (IsUnreached rows file) (Some j)
IsLost rows file (Memory reason) = Unit {0}
IsLost rows file reason = ⊥

-- ---- faults of parts

-- rows and sets of classes are those of parts
pub record AreOf (v : Vocabulary) (parts : List Part) (rows : List row.Part) (sets : List TokenSet) : Type 0 where
  pub are : AreRows v parts rows
  pub len : length rows ≡ length parts
  pub classes : AreClasses v parts (list_has sets) (length parts)

-- a plan has the rows and the sets of parts, and begins with the first rule
pub record IsPlanOf (v : Vocabulary) (parts : List Part) (plan : Plan) : Type 0 where
  pub are : AreOf v parts plan.rows plan.sets
  pub start : plan.start ≡ file_row parts

-- Parts without faults: none leads back to itself, repeats nothing, is undecided, or is never reached.
pub record AreSound (v : Vocabulary) (parts : List Part) : Type 0 where
  pub rows : List row.Part
  pub sets : List TokenSet
  pub are : AreOf v parts rows sets
  pub endless : NotEndless rows
  pub decided : AreDecided (plan_in parts rows sets) parts (length rows)
  pub reached : IsFirst (length rows) (IsUnreached rows (file_row parts)) None

-- The first fault in that order, of the least part that has it; or there are too many parts, or too little memory.
abbrev pub IsFaultOf : List Part → List row.Part → List TokenSet → RulesError → Type 0
IsFaultOf parts rows sets (LeftRecursive j) = IsEndless rows (LeftRecursive j)
IsFaultOf parts rows sets (Empty j) = IsEndless rows (Empty j)
IsFaultOf parts rows sets (Undecided j kinds) = NotEndless rows × IsFirstOpen (plan_in parts rows sets) parts (Undecided j kinds)
IsFaultOf parts rows sets (Unreached j) = NotEndless rows × AreDecided (plan_in parts rows sets) parts (length rows) × IsLost rows (file_row parts) (Unreached j)
IsFaultOf parts rows sets TooMany = NotEndless rows
IsFaultOf parts rows sets reason = ⊥

pub record HasFault (v : Vocabulary) (parts : List Part) (reason : RulesError) : Type 0 where
  pub rows : List row.Part
  pub sets : List TokenSet
  pub are : AreOf v parts rows sets
  pub fault : IsFaultOf parts rows sets reason

-- memory ran out
abbrev pub IsMemory : RulesError → Type 0
IsMemory (Memory reason) = Unit {0}
IsMemory reason = ⊥

abbrev pub IsRefused : Vocabulary → List Part → RulesError → Type 0
IsRefused v parts reason = HasFault v parts reason ⊎ IsMemory reason

-- Parts are refused for the first fault of a name, a kind or a size; if they have none, for another; or for memory.
abbrev pub IsRefusal : Vocabulary → List Part → RulesError → Type 0
IsRefusal v parts reason = (fault_of v parts ≡ Some reason) ⊎ ((fault_of v parts ≡ None) × HasFault v parts reason) ⊎ IsMemory reason
