-- Grammars of rules that are the same, number by number.
use Rattle.std.specs.Prelude.{◌≡◌, ℕ, List, map}
use denote.Ref.{Bor}
use Rattle.squawk_kinds.specs.KindNames.{Names}
use Rattle.rule_grammar.specs.declared.rules.RuleGrammar.{RuleGrammar}
use Rattle.rule_grammar.specs.declared.table.Table.{Table}

-- one table has the lists of another
pub record HaveSameLists (one other : Table) : Type 0 where
  pub rows : one.rows.now ≡ other.rows.now
  pub sets : one.sets.now ≡ other.sets.now
  pub looks : one.looks.now ≡ other.looks.now
  pub messages : one.messages.now ≡ other.messages.now
  pub message_ends : one.message_ends.now ≡ other.message_ends.now

-- and its kinds of operators
pub record HaveSameKinds (one other : Table) : Type 0 where
  pub operators : one.operators ≡ other.operators
  pub plain : one.plain ≡ other.plain
  pub glued : one.glued.now ≡ other.glued.now
  pub composed : one.composed ≡ other.composed

-- and hides the same tokens
pub record HideSame (one other : Table) : Type 0 where
  pub tokens : one.hidden.tokens.now ≡ other.hidden.tokens.now
  pub message : one.hidden.message.now ≡ other.hidden.message.now

pub record AreSameTables (one other : Table) : Type 0 where
  pub lists : HaveSameLists one other
  pub kinds : HaveSameKinds one other
  pub hidden : HideSame one other

-- a kind and its name, by value
abbrev pub name_of : ℕ × Bor (List ℕ) → ℕ × List ℕ
name_of pair = (pair.0, pair.1.now)

abbrev pub names_in : List (ℕ × Bor (List ℕ)) → Names
names_in = map name_of

-- one grammar is the same as another
pub record IsSame (one other : RuleGrammar) : Type 0 where
  pub tables : AreSameTables one.table other.table
  pub start : one.start ≡ other.start
  pub end : one.end ≡ other.end
  pub root : one.root ≡ other.root
  pub depth : one.depth ≡ other.depth
  pub names : names_in one.names.now ≡ names_in other.names.now
