-- The operator kinds at the front of the tokens that are seen, read token by token.
use Rattle.std.proofs.Common.{◌≡◌, ◌∙◌, ℕ, suc, ◌+◌, ◌<◌, ◌≤◌, Bool, true, false, ◌||◌, List, [], ◌∷◌, length, if◌then◌else◌, add-one, ap, sym, refl}
use Rattle.squawk_parser.specs.LookAhead.{seen_from}
use Rattle.squawk_parser.specs.Operators.{is_special, joint_run, operator_length}
use Rattle.squawk_table.specs.ParserInput.{Entry, kind_in, is_joint_in}
use Rattle.squawk_parser.proofs.OperatorLength.{longest_after, longest_from, longest_from-start}
use Rattle.squawk_parser.proofs.SeenTokens.{seen_next, seen_from-end}

-- the kinds of an operator at an index
unfoldable pub run_at : (operator_kind : ℕ → Bool) (input : List Entry) (limit index : ℕ) → List ℕ
run_at operator_kind input limit index = joint_run operator_kind (seen_from input limit index)

module _ (operator_kind : ℕ → Bool) (input : List Entry) (limit index : ℕ) where
  -- there is none at the limit
  pub run_at-limit : limit ≤ index → run_at operator_kind input limit index ≡ []
  unfolding run_at
  run_at-limit end = ap (joint_run operator_kind) (seen_from-end input limit index end)

  -- before it the first kind and whether it is joint with the next one decide what there is
  pub run_at-first : (kind : ℕ) (is_joint : Bool) → index < limit → limit ≤ length input → kind_in input index ≡ kind → is_joint_in input index ≡ is_joint
      → run_at operator_kind input limit index
      ≡ (if operator_kind kind then kind ∷ (if is_joint then run_at operator_kind input limit (suc index) else []) else [])
  unfolding run_at
  run_at-first kind is_joint before within same_kind same_is_joint =
      let next = seen_next input limit index before within in
      let run = λ (k : ℕ) (t : Bool). if operator_kind k then k ∷ (if t then joint_run operator_kind (seen_from input limit (suc index)) else []) else [] in
      ap (joint_run operator_kind) next.seen ∙ (ap (λ k. run k next.entry.is_joint) (next.kind ∙ same_kind) ∙ ap (run kind) (next.is_joint ∙ same_is_joint))

  -- where no token was read, its longest name is the operator's length
  pub longest_at-start : longest_from 0 false 0 (run_at operator_kind input limit index) ≡ operator_length operator_kind (seen_from input limit index)
  unfolding run_at
  longest_at-start = longest_from-start (joint_run operator_kind (seen_from input limit index))

  -- len kinds of a run were read, and the others stand at the index
  module _ (len : ℕ) (special : Bool) (longest : ℕ) where
    -- nothing stands at the limit
    pub longest_at-limit : limit ≤ index → longest_from len special longest (run_at operator_kind input limit index) ≡ longest
    unfolding longest_from
    longest_at-limit end = ap (longest_from len special longest) (run_at-limit end)

    module _ (kind : ℕ) (before : index < limit) (within : limit ≤ length input) (same_kind : kind ≡ kind_in input index) where
      -- a token that isn't an operator's ends the run
      pub longest_at-other : operator_kind kind ≡ false → longest_from len special longest (run_at operator_kind input limit index) ≡ longest
      unfolding longest_from
      longest_at-other other = rw (run_at-first kind _ before within (sym same_kind) refl, other) refl

      -- a token that isn't joint with the next is the run's last
      pub longest_at-last : operator_kind kind ≡ true → is_joint_in input index ≡ false
          → longest_from len special longest (run_at operator_kind input limit index) ≡ longest_after (len + 1) (special || is_special kind) longest kind
      unfolding longest_from
      longest_at-last one apart = rw (run_at-first kind false before within (sym same_kind) apart, one, add-one len) refl

      -- one that is joint with it is read, and the others stand behind it
      pub longest_at-next : operator_kind kind ≡ true → is_joint_in input index ≡ true
          → longest_from len special longest (run_at operator_kind input limit index)
          ≡ longest_from (len + 1) (special || is_special kind) (longest_after (len + 1) (special || is_special kind) longest kind)
          (run_at operator_kind input limit (index + 1))
      unfolding longest_from
      longest_at-next one joined = rw (run_at-first kind true before within (sym same_kind) joined, one, add-one len, add-one index) refl
