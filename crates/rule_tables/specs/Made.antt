-- Rules that are ready to be run.
use Rattle.std.specs.Prelude.{ℕ, List}
use Rattle.squawk_kinds.specs.declared.token_set.TokenSet.{TokenSet}
use Rattle.rule_tables.specs.Places.{Plan}

-- the rows and sets of the table, the rows of the rule of a file: the first, and the one after the last, and the kinds that
-- operators are made of; how many calls may stand in one another; and the rows with the sets of their classes
pub record Made : Type 0 where
  pub rows : List (List ℕ)
  pub sets : List (List ℕ)
  pub start : ℕ
  pub end : ℕ
  pub operators : TokenSet
  pub depth : ℕ
  pub plan : Plan
