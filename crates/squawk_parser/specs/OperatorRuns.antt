-- The numbers that give the lengths of operators without a pass over each.
use Rattle.std.specs.Prelude.{◌≡◌, ℕ, ◌+◌, ◌-◌, ◌<◌, ◌≤◌, ◌&&◌, IsTrue, Bool, true, false, not, List, length, slice_index}
use Rattle.squawk_kinds.specs.TokenSets.{has}
use Rattle.squawk_table.specs.ParserInput.{Entry, kind_in, is_joint_in}
use Rattle.squawk_parser.specs.LookAhead.{seen_from}
use Rattle.squawk_parser.specs.Operators.{is_sign, is_special, joint_run}
use Rattle.squawk_parser.specs.declared.parser.tokens.operator_runs.OperatorRuns.{OperatorRuns}

-- the kinds in which a name of several characters may end
abbrev pub is_no_sign : ℕ → Bool
is_no_sign kind = not (is_sign kind)

-- for each token the index past the run of joint operator kinds that starts there, if nothing limits it
pub record AreEnds (operator_kind : ℕ → Bool) (input : List Entry) (ends : List ℕ) : Type 0 where
  pub count : length ends ≡ length input
  pub at : (index : ℕ) → index < length input → slice_index ends index ≡ index + length (joint_run operator_kind (seen_from input (length input) index))

-- the index past the last token before the end whose kind passes the test; 0 if none passes
pub record IsPastLast (test : ℕ → Bool) (input : List Entry) (end past : ℕ) : Type 0 where
  pub within : past ≤ end
  pub last : 0 < past → test (kind_in input (past - 1)) ≡ true
  pub none : (k : ℕ) → past ≤ k → k < end → test (kind_in input k) ≡ false

-- for each of the first n tokens such an index, of the tokens up to it
pub record ArePastLast (test : ℕ → Bool) (input : List Entry) (n : ℕ) (pasts : List ℕ) : Type 0 where
  pub count : length pasts ≡ n
  pub at : (i : ℕ) → i < n → IsPastLast test input (i + 1) (slice_index pasts i)

-- the numbers of each token of an input
pub record AreRunsOf (runs : OperatorRuns) (input : List Entry) : Type 0 where
  pub ends : AreEnds (has runs.operator_first) input runs.ends.items
  pub specials : ArePastLast is_special input (length input) runs.past_specials.items
  pub others : ArePastLast is_no_sign input (length input) runs.past_others.items

-- each of the 16 tokens from this one on is joint with the next and has an operator's kind
abbrev pub IsInRun : (ℕ → Bool) → List Entry → ℕ → Type 0
IsInRun operator_kind input start = (i : ℕ) → start ≤ i → i < start + 16 → IsTrue (is_joint_in input i && operator_kind (kind_in input i))
