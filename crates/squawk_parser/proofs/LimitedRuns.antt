-- The operator kinds at an index under a limit: how many there are, and which.
use Rattle.std.proofs.Common.{◌≡◌, ◌∙◌, ℕ, zero, suc, ◌+◌, ◌-◌, ◌<◌, ◌≤◌, min, Bool, true, false, List, [], ◌∷◌, length, get_or, if◌then◌else◌, add-zero, arith, ap, sym, refl, inl, inr}
use Rattle.std.proofs.lemmas.Bool.{cases_lt}
use Rattle.squawk_table.specs.ParserInput.{Entry, kind_in, is_joint_in}
use Rattle.squawk_parser.proofs.JointRun.{run_at, run_at-limit, run_at-first}

module _ (operator_kind : ℕ → Bool) (input : List Entry) (limit : ℕ) (within : limit ≤ length input) where
  -- a limit cuts the run
  cut_by : (room index : ℕ) → index + room ≡ limit
      → length (run_at operator_kind input limit index) ≡ min room (length (run_at operator_kind input (length input) index))
  cut_by zero index at = ap length (run_at-limit operator_kind input limit index (omega arith)) ∙ omega arith
  cut_by (suc room) index at =
      let kind = kind_in input index in
      let is_joint = is_joint_in input index in
      let more = cut_by room (suc index) (omega arith) in
      ap length (run_at-first operator_kind input limit index kind is_joint (omega arith) within refl refl)
      ∙ (here kind (operator_kind kind) is_joint _ _ more
      ∙ ap (λ run. min (suc room) (length run)) (sym (run_at-first operator_kind input (length input) index kind is_joint (omega arith) (omega arith) refl refl)))
    where
      here : (kind : ℕ) (b is_joint : Bool) (cut all : List ℕ) → length cut ≡ min room (length all)
          → length (if b then kind ∷ (if is_joint then cut else []) else []) ≡ min (suc room) (length (if b then kind ∷ (if is_joint then all else []) else []))
      here kind true true cut all more = omega arith
      here kind true false cut all more = omega arith
      here kind false is_joint cut all more = omega arith

  pub length-run_at : (index : ℕ) → index ≤ limit
      → length (run_at operator_kind input limit index) ≡ min (limit - index) (length (run_at operator_kind input (length input) index))
  length-run_at index le = cut_by (limit - index) index (omega arith)

  -- at the limit there is none
  pub before_limit : (k index : ℕ) → k < length (run_at operator_kind input limit index) → index < limit
  before_limit k index lt = elim (cases_lt index limit) [
    | inl before ↦ before
    | inr end ↦ absurd (omega (arith, ap length (run_at-limit operator_kind input limit index end)))
  ]

  first_kind : (kind : ℕ) (b is_joint : Bool) (rest : List ℕ) → 0 < length (if b then kind ∷ (if is_joint then rest else []) else [])
      → get_or (if b then kind ∷ (if is_joint then rest else []) else []) 0 0 ≡ kind
  first_kind kind true is_joint rest lt = refl
  first_kind kind false is_joint rest lt = absurd (omega arith)

  next_kind : (k kind other : ℕ) (b is_joint : Bool) (rest : List ℕ) → (k < length rest → get_or rest k 0 ≡ other)
      → suc k < length (if b then kind ∷ (if is_joint then rest else []) else []) → get_or (if b then kind ∷ (if is_joint then rest else []) else []) (suc k) 0 ≡ other
  next_kind k kind other true true rest same lt = same (omega arith)
  next_kind k kind other true false rest same lt = absurd (omega arith)
  next_kind k kind other false is_joint rest same lt = absurd (omega arith)

  -- its kinds are those of the tokens from the index on
  pub kind_at-run : (k index : ℕ) → k < length (run_at operator_kind input limit index) → get_or (run_at operator_kind input limit index) k 0 ≡ kind_in input (index + k)
  kind_at-run zero index lt =
      let kind = kind_in input index in
      let first = run_at-first operator_kind input limit index kind (is_joint_in input index) (before_limit zero index lt) within refl refl in
      ap (λ run. get_or run 0 0) first
      ∙ (first_kind kind (operator_kind kind) (is_joint_in input index) _ (omega (arith, ap length first)) ∙ ap (kind_in input) (sym (add-zero index)))
  kind_at-run (suc k) index lt =
      let kind = kind_in input index in
      let first = run_at-first operator_kind input limit index kind (is_joint_in input index) (before_limit (suc k) index lt) within refl refl in
      let at : suc index + k ≡ index + suc k = omega arith in
      ap (λ run. get_or run (suc k) 0) first
      ∙ next_kind k kind (kind_in input (index + suc k)) (operator_kind kind) (is_joint_in input index) _
      (λ below. kind_at-run k (suc index) below ∙ ap (kind_in input) at) (omega (arith, ap length first))
