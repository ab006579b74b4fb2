-- Rows that four tokens don't decide, one after another.
use Rattle.std.proofs.Common.{◌≡◌, ◌+◌, ◌<◌, ℕ, zero, suc, false, inl, inr, List, Option, None, Some, length, slice_get, arith, refl, sym, subst}
use Rattle.std.proofs.lemmas.Bool.{cases_eq}
use Rattle.std.proofs.lemmas.Option.{slice_get_within}
use Rattle.rule_grammar.specs.declared.part.Part.{Part}
use Rattle.rule_grammar.specs.declared.part.Part.TheVariants.{Arm, Tail}
use Rattle.squawk_kinds.specs.declared.token_set.TokenSet.{TokenSet}
use Rattle.rule_tables.specs.Forks.{AreDecided, IsDecidedWay, IsFirstOpen, IsOpen, IsUndecidedBy, plan_in}
use Rattle.rule_tables.specs.Rows.{file_row}
use Rattle.rule_tables.specs.Walks.{plan_of}
use Rattle.rule_tables.specs.Strands.{AreWaysDecided, IsElsewhere, IsToldAt, IsUpTo, IsWayUndecided}
use Rattle.rule_tables.specs.declared.map.Map.{Map}
use Rattle.rule_tables.specs.declared.strands.Open.{Open}
use Rattle.rule_tables.proofs.Beside.{arm_decided, tail_decided}
use Rattle.rule_tables.specs.Limits.{IsUndecidedIf}
use Rattle.rule_tables.specs.Settled.{settles}
use Rattle.rule_parts.specs.declared.Part as parts
use Rattle.rule_tables.specs.Places.{AreTold, ComesTwoWays, IsUndecidedRow, Plan}
use Rattle.rule_tables.specs.declared.error.RulesError.{RulesError}
use Rattle.rule_tables.specs.declared.error.RulesError.TheVariants.{Undecided, TooMany, Memory}

module _ (plan : Plan) (list : List parts.Part) (n : ℕ) (row : Part) (here : slice_get plan.rows n ≡ Some row) (before : AreDecided plan list n) where
  abbrev pub IsOpenRow : Type 0
  IsOpenRow = (settles list plan.rows n ≡ false) × IsUndecidedRow plan n (Some row)

  abbrev pub IsOpenBy : List ℕ → Type 0
  IsOpenBy kinds = (settles list plan.rows n ≡ false) × AreTold (ComesTwoWays plan n (Some row)) kinds

  pub decided_more : (IsOpenRow → ⊥) → AreDecided plan list (n + 1)
  decided_more none i lt opened =
      elim (cases_eq i n) [
        | inl same ↦
            let it : IsOpen plan list n = subst (IsOpen plan list) same opened in
            none (it.0, subst (λ (found : Option Part). IsUndecidedRow plan n found) here it.1)
        | inr other ↦ before i (omega arith) opened
      ]

  pub first_open : (reason : RulesError) → IsUndecidedIf IsOpenBy n reason → IsFirstOpen plan list reason
  first_open (Undecided j kinds) fault =
      let it : IsUndecidedBy plan list n kinds = (fault.1.0, subst (λ (found : Option Part). AreTold (ComesTwoWays plan n found) kinds) (sym here) fault.1.1) in
      rw fault.0 (it, before)
  first_open TooMany fault = fault
  first_open (Memory e) fault = fault
  first_open reason fault = absurd fault

-- ---- arms and operators, of which the first that is undecided is known

pub up_to : (n : ℕ) (found : Option Open) → ((k : ℕ) → k < n → IsUpTo found k) → IsElsewhere found n → IsUpTo found n
up_to n None before other = tt
up_to zero (Some one) before other = elim (cases_eq one.row 0) [ inl same ↦ absurd (other same) | inr more ↦ omega arith ]
up_to (suc n) (Some one) before other = let past : n < one.row = before n (omega arith) in elim (cases_eq one.row (suc n)) [ inl same ↦ absurd (other same) | inr more ↦ omega arith ]

pub up_more : (n : ℕ) (found : Option Open) → ((k : ℕ) → k < n → IsUpTo found k) → IsElsewhere found n → (k : ℕ) → k < n + 1 → IsUpTo found k
up_more n found before other k lt = elim (cases_eq k n) [ inl same ↦ subst (IsUpTo found) (sym same) (up_to n found before other) | inr less ↦ before k (omega (arith, lt, less)) ]

pub way_here : (plan : Plan) (list : List parts.Part) (n : ℕ) (row : Part) (found : Option Open) → AreWaysDecided plan list (length plan.rows) found → slice_get plan.rows n ≡ Some row → IsUpTo found n → IsDecidedWay plan list n row
way_here plan list n (Arm end) found ways here up = λ opened. arm_decided plan list found ways n (slice_get_within plan.rows n (Arm end) here) up opened.0 end here opened.1
way_here plan list n (Tail end level top) found ways here up = λ opened. tail_decided plan list found ways n (slice_get_within plan.rows n (Tail end level top) here) up opened.0 end level top here opened.1
way_here plan list n row found ways here up = tt

pub told_open : (plan : Plan) (list : List parts.Part) (found : Option Open) (n : ℕ) (reason : RulesError) → IsWayUndecided plan list found → AreDecided plan list n → IsToldAt found n reason → IsFirstOpen plan list reason
told_open plan list None n reason way before told = absurd told
told_open plan list (Some one) n reason way before told = subst (IsFirstOpen plan list) (sym told.1) (subst (λ (r : ℕ). IsUndecidedBy plan list r one.kinds) told.0 way, before)

-- the same of the rows and sets that a map was made of
pub decided_in : (map : Map) (list : List parts.Part) {rows : List Part} {sets : List TokenSet} → map.rows.now ≡ rows → map.sets.now ≡ sets → map.start ≡ file_row list
    → AreDecided (plan_of map) list (length map.rows.now) → AreDecided (plan_in list rows sets) list (length rows)
decided_in map list {rows} {sets} same_rows same_sets same_start none =
    subst (λ (r : List Part). AreDecided (plan_in list r sets) list (length r)) same_rows
    (subst (λ (s : List TokenSet). AreDecided (plan_in list map.rows.now s) list (length map.rows.now)) same_sets
    (subst (λ (k : ℕ). AreDecided (record { rows = map.rows.now; sets = map.sets.now; start = k }) list (length map.rows.now)) same_start none))

pub plan_is : (map : Map) {rows : List Part} {sets : List TokenSet} {start : ℕ} → map.rows.now ≡ rows → map.sets.now ≡ sets → map.start ≡ start → plan_of map ≡ record { rows = rows; sets = sets; start = start }
plan_is map same_rows same_sets same_start = rw (same_rows, same_sets, same_start) refl
