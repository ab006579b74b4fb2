-- The lists of an input in the making: its tokens so far, and what is written behind them.
use Rattle.std.proofs.Common.{◌≡◌, ◌∙◌, ℕ, ◌+◌, ◌<◌, ◌≤◌, Bool, true, false, not, ◌&&◌, List, [], ◌∷◌, ◌++◌, length, slice_index, get_or, set, take, arith, ap, sym, inl, inr, add-zero, append_assoc, append-nil, get_or-set_same, get_or-set_other}
use Rattle.std.specs.Int.{from_bool}
use Rattle.std.proofs.Math.Bool.{and-false}
use Rattle.std.proofs.lemmas.Bool.{cases_eq}
use Rattle.std.proofs.lemmas.List.{length-take-le, set-get_or, take-set, take_more_set}
use Rattle.squawk_kinds.specs.Kinds.{is_trivia}
use Rattle.squawk_kinds.specs.Keywords.{Keywords}
use Rattle.squawk_table.specs.InputView.{IsEven, entries_in}
use Rattle.squawk_table.specs.ParserInput.{Entry, contextual_kind_of, entries_of, entry_for, is_followed}
use Rattle.squawk_table.specs.RawTable.{Table, raw_at, raw_after}
use Rattle.squawk_table.proofs.InputEntries.{entries_in-push}
use Rattle.squawk_table.proofs.RawTokens.{entries_of-token, entries_of-trivia, raw_after-end, raw_after-next}

-- there are no more tokens than raw tokens that were seen
pub within_next : (n i : ℕ) (trivia : Bool) → n ≤ i → n + from_bool (not trivia) ≤ i + 1
within_next n i false le = omega (arith, le)
within_next n i true le = omega (arith, le)

-- behind the tokens no bit is set, also where the raw token before is trivia
pub unset_next : (joints : List Bool) (last : ℕ) (was_token followed : Bool) → last < length joints → ((k : ℕ) → last ≤ k → get_or joints k false ≡ false)
    → (k : ℕ) → last + from_bool was_token ≤ k → get_or (set joints last (was_token && followed)) k false ≡ false
unset_next joints last true followed lt unset k le =
    get_or-set_other joints last k followed false (λ e. absurd (omega (arith, le))) ∙ unset k (omega (arith, le))
unset_next joints last false followed lt unset k le =
    elim (cases_eq k last) [
      | inl e ↦ rw e (get_or-set_same joints last false false lt)
      | inr ne ↦ get_or-set_other joints last k false false ne ∙ unset k (omega (arith, le))
    ]

-- whether a raw token follows the one before it is told by its kind
pub followed_at : (t : Table) (i : ℕ) (trivia : Bool) → i < length t.kinds → is_trivia (slice_index t.kinds i) ≡ trivia → is_followed (raw_after t i) ≡ not trivia
followed_at t i trivia lt e = ap is_followed (raw_after-next t i lt) ∙ ap not e

module _ (contextual : Keywords) (t : Table) (i : ℕ) (kinds contextual_kinds : List ℕ) (joints : List Bool) (all : List Entry) where
  -- one raw token more: a token is the next one of the input, and trivia isn't
  pub entries_next : i < length t.kinds → (n : ℕ) → n < length kinds → n < length contextual_kinds → n < length joints
      → (trivia : Bool) → is_trivia (slice_index t.kinds i) ≡ trivia
      → entries_in (take n kinds) (take n contextual_kinds) (take n joints) ++ entries_of contextual (raw_after t i) ≡ all
      → entries_in
      (take (n + from_bool (not trivia)) (set kinds n (slice_index t.kinds i)))
      (take (n + from_bool (not trivia)) (set contextual_kinds n (contextual_kind_of contextual (raw_at t i))))
      (take (n + from_bool (not trivia)) (set joints n (not trivia && is_followed (raw_after t (i + 1)))))
      ++ entries_of contextual (raw_after t (i + 1)) ≡ all
  entries_next lt n in_kinds in_contextual in_joints false token done =
      let rest = entries_of contextual (raw_after t (i + 1)) in
      let entry = entry_for contextual (raw_at t i) (raw_after t (i + 1)) in
      let made = entries_in (take n kinds) (take n contextual_kinds) (take n joints) in
      let len : length (take n kinds) ≡ n = length-take-le n kinds (omega (arith, in_kinds)) in
      let even : IsEven (take n kinds) (take n contextual_kinds) (take n joints) = record {
        contextual = length-take-le n contextual_kinds (omega (arith, in_contextual)) ∙ sym len;
        joint = length-take-le n joints (omega (arith, in_joints)) ∙ sym len;
      } in
      rw (take_more_set kinds n _ in_kinds, take_more_set contextual_kinds n _ in_contextual, take_more_set joints n _ in_joints)
      (ap (λ xs. xs ++ rest) (entries_in-push (take n kinds) (take n contextual_kinds) (take n joints) _ _ _ even)
      ∙ (append_assoc made (entry ∷ []) rest ∙ (ap (λ xs. made ++ xs) (sym (entries_of-token contextual t i lt token)) ∙ done)))
  entries_next lt n in_kinds in_contextual in_joints true trivia done =
      rw (add-zero n, take-set kinds n _, take-set contextual_kinds n _, take-set joints n _, ← entries_of-trivia contextual t i lt trivia) done

-- past the last raw token they are all, and none follows the last
pub entries_end : (contextual : Keywords) (t : Table) (i : ℕ) (kinds contextual_kinds : List ℕ) (joints : List Bool) (all : List Entry) (n last : ℕ) (was_token : Bool)
    → length t.kinds ≤ i → get_or joints last false ≡ false
    → entries_in (take n kinds) (take n contextual_kinds) (take n (set joints last (was_token && is_followed (raw_after t i)))) ++ entries_of contextual (raw_after t i) ≡ all
    → entries_in (take n kinds) (take n contextual_kinds) (take n joints) ≡ all
entries_end contextual t i kinds contextual_kinds joints all n last was_token past unset done =
    let made = λ (bits : List Bool). entries_in (take n kinds) (take n contextual_kinds) (take n bits) in
    let none : (was_token && is_followed (raw_after t i)) ≡ false = ap (λ raw. was_token && is_followed raw) (raw_after-end t i past) ∙ and-false was_token in
    let same : set joints last (was_token && is_followed (raw_after t i)) ≡ joints = ap (set joints last) (none ∙ sym unset) ∙ set-get_or joints last false in
    ap made (sym same) ∙ (sym (append-nil _) ∙ (ap (λ raw. made (set joints last (was_token && is_followed (raw_after t i))) ++ entries_of contextual raw) (sym (raw_after-end t i past)) ∙ done))
