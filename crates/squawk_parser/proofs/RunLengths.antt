-- An operator's length by where its run ends, the last special kind before that, and the last kind that is no sign.
use Rattle.std.proofs.Common.{◌≡◌, ◌∙◌, ℕ, suc, ◌+◌, ◌-◌, ◌<◌, ◌≤◌, min, Bool, true, false, not, List, length, get_or, arith, ap, sym, refl, inl, inr}
use Rattle.squawk_table.specs.ParserInput.{Entry, kind_in}
use Rattle.squawk_parser.specs.LookAhead.{seen_from}
use Rattle.squawk_parser.specs.Operators.{is_sign, is_special, longest_name, operator_length, joint_run}
use Rattle.squawk_parser.specs.OperatorRuns.{IsPastLast, is_no_sign}
use Rattle.squawk_parser.proofs.LimitedRuns.{kind_at-run, length-run_at}
use Rattle.squawk_parser.proofs.OperatorNames.{longest-special, longest-other}
use Rattle.squawk_parser.proofs.JointRun.{run_at}

sign-true : (kind : ℕ) → is_no_sign kind ≡ false → is_sign kind ≡ true
sign-true kind fails = cases (is_sign kind) fails
  where
    cases : (b : Bool) → not b ≡ false → b ≡ true
    cases b fails = grind arith

sign-false : (kind : ℕ) → is_no_sign kind ≡ true → is_sign kind ≡ false
sign-false kind passes = cases (is_sign kind) passes
  where
    cases : (b : Bool) → not b ≡ true → b ≡ false
    cases b passes = grind arith

module _ (operator_kind : ℕ → Bool) (input : List Entry) (limit index : ℕ) where
  abbrev seen : List Entry
  seen = seen_from input limit index

  abbrev run : List ℕ
  run = run_at operator_kind input limit index

  by_run : operator_length operator_kind seen ≡ longest_name run (length run)
  unfolding run_at
  by_run = refl

  module _ (within : limit ≤ length input) (end : ℕ) (before : index ≤ limit)
      (ends : end ≡ min limit (index + length (joint_run operator_kind (seen_from input (length input) index)))) where
    length-run : length run ≡ end - index
    unfolding run_at
    length-run = length-run_at operator_kind input limit within index before ∙ omega arith

    kind_at : (k : ℕ) → index ≤ k → k < end → get_or run (k - index) 0 ≡ kind_in input k
    kind_at k from to =
        let at : index + (k - index) ≡ k = omega arith in
        kind_at-run operator_kind input limit within (k - index) index (omega (arith, length-run)) ∙ ap (kind_in input) at

    -- none stands where the run ends at once
    pub length-none : end ≤ index → operator_length operator_kind seen ≡ 0
    length-none none = let empty : length run ≡ 0 = omega (arith, length-run) in by_run ∙ ap (longest_name run) empty

    -- with a special kind all of the run is one
    pub length-special : (past : ℕ) → IsPastLast is_special input end past → index < past → operator_length operator_kind seen ≡ end - index
    length-special past special some =
        let k = past - 1 in
        let is : is_special (get_or run (k - index) 0) ≡ true =
        ap is_special (kind_at k (omega arith) (omega (arith, special.within))) ∙ special.last (omega arith) in
        by_run ∙ (longest-special run (k - index) (omega (arith, length-run, special.within)) is ∙ length-run)

    module _ (special : ℕ) (lasts : IsPastLast is_special input end special) (none : special ≤ index) (some : index < end) where
      no_special : (k : ℕ) → k < length run → is_special (get_or run k 0) ≡ false
      no_special k lt =
          let at : index + k - index ≡ k = omega arith in
          ap (λ i. is_special (get_or run i 0)) (sym at)
          ∙ (ap is_special (kind_at (index + k) (omega arith) (omega (arith, length-run))) ∙ lasts.none (index + k) (omega arith) (omega (arith, length-run)))

      module _ (other : ℕ) (others : IsPastLast is_no_sign input end other) where
        sign_behind : (n k : ℕ) → other ≤ index + suc n → n < k → k < length run → is_sign (get_or run k 0) ≡ true
        sign_behind n k past above lt =
            let at : index + k - index ≡ k = omega arith in
            let here = ap (λ i. is_sign (get_or run i 0)) (sym at) ∙ ap is_sign (kind_at (index + k) (omega arith) (omega (arith, length-run))) in
            here ∙ sign-true (kind_in input (index + k)) (others.none (index + k) (omega arith) (omega (arith, length-run)))

        -- without one it ends behind the last kind that is no sign
        pub length-other : index < other → operator_length operator_kind seen ≡ other - index
        length-other has =
            let n = other - 1 - index in
            let len : suc n ≡ other - index = omega arith in
            let last : is_sign (get_or run n 0) ≡ false =
            ap is_sign (kind_at (other - 1) (omega arith) (omega (arith, others.within))) ∙ sign-false (kind_in input (other - 1)) (others.last (omega arith)) in
            by_run ∙ (longest-other run no_special n (inr last) (omega (arith, length-run, others.within)) (λ k above lt. sign_behind n k (omega arith) above lt) ∙ len)

        -- and where all are signs it is the first of them
        pub length-sign : other ≤ index → operator_length operator_kind seen ≡ 1
        length-sign all = by_run ∙ longest-other run no_special 0 (inl refl) (omega (arith, length-run)) (λ k above lt. sign_behind 0 k (omega arith) above lt)
