-- A long run of an operator's kinds has a block of tokens in it.
use Rattle.std.proofs.Common.{◌≡◌, ℕ, zero, suc, ◌+◌, ◌-◌, ◌*◌, ◌/◌, ◌<◌, ◌≤◌, ◌&&◌, Bool, true, false, List, [], ◌∷◌, length, if◌then◌else◌, add-zero, arith, ap, refl, inl, inr}
use Rattle.std.specs.Prelude.{IsTrue}
use Rattle.std.proofs.lemmas.Bool.{cases_lt}
use Rattle.squawk_table.specs.ParserInput.{Entry, kind_in, is_joint_in}
use Rattle.squawk_parser.specs.LookAhead.{seen_from}
use Rattle.squawk_parser.specs.Operators.{joint_run}
use Rattle.squawk_parser.specs.OperatorRuns.{IsInRun}
use Rattle.squawk_parser.proofs.LimitedRuns.{before_limit, length-run_at}
use Rattle.squawk_parser.proofs.JointRun.{run_at, run_at-first}

module _ (operator_kind : ℕ → Bool) (input : List Entry) (limit : ℕ) (within : limit ≤ length input) where
  first_joins : (kind : ℕ) (b is_joint : Bool) (rest : List ℕ) → 1 < length (if b then kind ∷ (if is_joint then rest else []) else []) → IsTrue (is_joint && b)
  first_joins kind true true rest lt = refl
  first_joins kind true false rest lt = absurd (omega arith)
  first_joins kind false is_joint rest lt = absurd (omega arith)

  rest_longer : (k kind : ℕ) (b is_joint : Bool) (rest : List ℕ) → suc k < length (if b then kind ∷ (if is_joint then rest else []) else []) → k < length rest
  rest_longer k kind true true rest lt = omega arith
  rest_longer k kind true false rest lt = absurd (omega arith)
  rest_longer k kind false is_joint rest lt = absurd (omega arith)

  -- each token of a run but the last is joint with the next, and has an operator's kind
  joins : (k index : ℕ) → suc k < length (run_at operator_kind input limit index) → IsTrue (is_joint_in input (index + k) && operator_kind (kind_in input (index + k)))
  joins zero index lt =
      let kind = kind_in input index in
      let first = run_at-first operator_kind input limit index kind (is_joint_in input index) (before_limit operator_kind input limit within 1 index lt) within refl refl in
      rw (add-zero index) (first_joins kind (operator_kind kind) (is_joint_in input index) (run_at operator_kind input limit (suc index)) (omega (arith, ap length first)))
  joins (suc k) index lt =
      let kind = kind_in input index in
      let first = run_at-first operator_kind input limit index kind (is_joint_in input index) (before_limit operator_kind input limit within (suc (suc k)) index lt) within refl refl in
      let at : suc index + k ≡ index + suc k = omega arith in
      let longer = rest_longer (suc k) kind (operator_kind kind) (is_joint_in input index) (run_at operator_kind input limit (suc index)) (omega (arith, ap length first)) in
      rw at at (joins k (suc index) longer)

  -- so where no block of 16 tokens is in a run, no run has 32
  pub no_long_run : (index : ℕ) → ((block : ℕ) → block < length input / 16 → IsInRun operator_kind input (block * 16) → ⊥)
      → length (joint_run operator_kind (seen_from input limit index)) < 32
  unfolding run_at
  no_long_run index none = elim (cases_lt (length (run_at operator_kind input limit index)) 32) [
    | inl short ↦ short
    | inr long ↦
        let block = (index + 15) / 16 in
        let before = before_limit operator_kind input limit within 0 index (omega arith) in
        let all = length-run_at operator_kind input limit within index (omega arith) in
        let there : IsInRun operator_kind input (block * 16) = λ i from to.
        let at : index + (i - index) ≡ i = omega arith in
        rw at at (joins (i - index) index (omega arith)) in
        absurd (none block (omega (arith, all)) there)
  ]
