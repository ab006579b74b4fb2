-- The numbers that give the lengths of operators, made token by token.
use Rattle.std.proofs.Common.{◌≡◌, ◌∙◌, ℕ, suc, ◌+◌, ◌-◌, ◌<◌, ◌≤◌, Bool, true, false, List, [], ◌∷◌, ◌++◌, length, get_or, set, if◌then◌else◌, arith, ap, sym, refl, subst, inl, inr, get_or-set_same, get_or-set_other, length-append, length-set}
use Rattle.std.proofs.lemmas.Bool.{cases_eq}
use Rattle.std.proofs.lemmas.List.{get_or_push, get_or_append_left, get_or_read_under}
use Rattle.squawk_table.specs.ParserInput.{Entry, kind_in, is_joint_in}
use Rattle.squawk_parser.specs.OperatorRuns.{AreEnds, ArePastLast, IsPastLast}
use Rattle.squawk_parser.proofs.JointRun.{run_at, run_at-limit, run_at-first}

module _ (operator_kind : ℕ → Bool) (input : List Entry) where
  -- where the run at an index ends
  pub end_of : ℕ → ℕ
  end_of index = index + length (run_at operator_kind input (length input) index)

  pub end_of-limit : end_of (length input) ≡ length input
  unfolding end_of
  end_of-limit = omega (arith, ap length (run_at-limit operator_kind input (length input) (length input) (omega arith)))

  module _ (index : ℕ) (before : index < length input) where
    first : run_at operator_kind input (length input) index
        ≡ (if operator_kind (kind_in input index) then kind_in input index ∷ (if is_joint_in input index then run_at operator_kind input (length input) (suc index) else []) else [])
    first = run_at-first operator_kind input (length input) index (kind_in input index) (is_joint_in input index) before (omega arith) refl refl

    pub end_of-other : operator_kind (kind_in input index) ≡ false → end_of index ≡ index
    unfolding end_of
    end_of-other other = omega (arith, rw other at (ap length first))

    pub end_of-last : operator_kind (kind_in input index) ≡ true → is_joint_in input index ≡ false → end_of index ≡ index + 1
    unfolding end_of
    end_of-last one apart = omega (arith, rw (one, apart) at (ap length first))

    pub end_of-next : operator_kind (kind_in input index) ≡ true → is_joint_in input index ≡ true → end_of index ≡ end_of (suc index)
    unfolding end_of
    end_of-next one joined = omega (arith, rw (one, joined) at (ap length first))

  -- the ends of the tokens from an index on
  pub record AreEndsFrom (index : ℕ) (ends : List ℕ) : Type 0 where
    pub count : length ends ≡ length input
    pub at : (k : ℕ) → index ≤ k → k < length input → get_or ends k 0 ≡ end_of k

  -- one more in front
  pub ends_more : (index : ℕ) (ends : List ℕ) (end : ℕ) → index < length input → AreEndsFrom (suc index) ends → end ≡ end_of index → AreEndsFrom index (set ends index end)
  ends_more index ends end before so_far is = record {
    count = omega (arith, length-set {A = ℕ}, so_far.count);
    at = λ k from to. elim (cases_eq k index) [
      | inl same ↦ rw same (get_or-set_same ends index end 0 (omega (arith, so_far.count)) ∙ is)
      | inr other ↦ get_or-set_other ends index k end 0 other ∙ so_far.at k (omega arith) to
    ];
  }

  pub all_ends : (ends : List ℕ) → AreEndsFrom 0 ends → AreEnds operator_kind input ends
  unfolding end_of run_at
  all_ends ends all = record { count = all.count; at = λ index lt. all.at index (omega arith) lt }

module _ (test : ℕ → Bool) (input : List Entry) where
  -- one more token passes, or the last that did stays
  pub past_more : (end past : ℕ) → IsPastLast test input end past → IsPastLast test input (end + 1) (if test (kind_in input end) then end + 1 else past)
  past_more end past so_far = cases (test (kind_in input end)) refl
    where
      cases : (b : Bool) → test (kind_in input end) ≡ b → IsPastLast test input (end + 1) (if b then end + 1 else past)
      cases true passes =
          let at : end + 1 - 1 ≡ end = omega arith in
          record { within = omega arith; last = λ some. ap (λ k. test (kind_in input k)) at ∙ passes; none = λ k from to. absurd (omega arith) }
      cases false fails = record {
        within = omega (arith, so_far.within);
        last = so_far.last;
        none = λ k from to. elim (cases_eq k end) [
          | inl same ↦ ap (λ i. test (kind_in input i)) same ∙ fails
          | inr other ↦ so_far.none k from (omega arith)
        ];
      }

  -- one more at the end
  pub pasts_more : (n past : ℕ) (pasts : List ℕ) → ArePastLast test input n pasts → IsPastLast test input (n + 1) past → ArePastLast test input (n + 1) (pasts ++ past ∷ [])
  pasts_more n past pasts so_far is = record {
    count = omega (arith, length-append pasts (past ∷ []), so_far.count);
    at = λ i lt. elim (cases_eq i n) [
      | inl same ↦
          let here : past ≡ get_or (pasts ++ past ∷ []) i 0 = sym (get_or_push pasts past 0 i (omega (arith, so_far.count))) in
          subst (IsPastLast test input (i + 1)) here (subst (λ m. IsPastLast test input (m + 1) past) (sym same) is)
      | inr other ↦
          let before : get_or pasts i 0 ≡ get_or (pasts ++ past ∷ []) i 0 = sym (get_or_append_left pasts (past ∷ []) 0 i (omega (arith, so_far.count))) in
          subst (IsPastLast test input (i + 1)) before (so_far.at i (omega arith))
    ];
  }

  -- the index that was read is that of the tokens before the end
  pub past_read : (pasts : List ℕ) (end read : ℕ) → ArePastLast test input (length input) pasts → 0 < end → end ≤ length input
      → read ≡ get_or pasts (end - 1) read → IsPastLast test input end read
  past_read pasts end read all some within here =
      let at : end - 1 + 1 ≡ end = omega arith in
      let same : read ≡ get_or pasts (end - 1) 0 = get_or_read_under pasts (end - 1) (length pasts) read 0 here (omega (arith, all.count)) refl in
      subst (λ m. IsPastLast test input m read) at (subst (IsPastLast test input (end - 1 + 1)) (sym same) (all.at (end - 1) (omega arith)))
