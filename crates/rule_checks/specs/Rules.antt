-- Which rules are used.
use Rattle.std.specs.Prelude.{◌≡◌, ◌≢◌, ℕ, ◌+◌, ◌<◌, ◌≤◌, List}
use Rattle.rule_grammar.specs.declared.part.Part.{Part}
use Rattle.rule_grammar.specs.declared.part.Part.TheVariants.{Call}
use Rattle.rule_checks.specs.Rows.{next_at, row_at}
use Rattle.rule_checks.specs.Empty.{IsArm}
use Rattle.rule_checks.specs.Steps.{After}

-- Row k is the first of a rule: an arm that is in no other row.
pub record IsRule (rows : List Part) (k : ℕ) : Type 0 where
  pub arm : IsArm (row_at rows k)
  pub outermost : (o : ℕ) → o < k → next_at rows o ≤ k

-- In some rows stands a call of the rows after row r.
pub record IsCalled (rows : List Part) (start end r : ℕ) : Type 0 where
  pub at : ℕ
  pub from : start ≤ at
  pub before : at < end
  pub last : ℕ
  pub calls : row_at rows at ≡ Call (r + 1) last

-- The rule of row h calls the one of row r.
pub record Uses (rows : List Part) (h r : ℕ) : Type 0 where
  pub rule : IsRule rows h
  pub call : IsCalled rows (h + 1) (next_at rows h) r

-- Row k is the first of a rule that neither is the file's nor is called, through other rules, from it.
pub record IsUnreached (rows : List Part) (file k : ℕ) : Type 0 where
  pub rule : IsRule rows k
  pub other : k ≢ file
  pub unused : ¬ After (Uses rows) file k
