-- What holds up to a part, and with it.
use Rattle.std.proofs.Common.{◌≡◌, ℕ, zero, suc, ◌+◌, ◌<◌, ◌≤◌, ◌∙◌, inl, inr, List, Option, Some, None, length, get_or, slice_get, add-one, arith, ap, refl, sym, subst}
use Rattle.std.proofs.lemmas.Bool.{cases_Bool, cases_eq}
use Rattle.std.proofs.lemmas.Bool.Decides.{nat_tests}
use Rattle.std.proofs.lemmas.Option.{slice_get-get_or, slice_get_cases, slice_get_within}
use Rattle.std.specs.Option.{option_and_then, option_or}
use Rattle.rule_parts.specs.declared.Part.{Part}
use Rattle.rule_grammar.specs.declared.part.Part as row
use Rattle.rule_tables.specs.declared.error.RulesError.{RulesError}
use Rattle.rule_tables.specs.declared.error.RulesError.TheVariants.{TooMany}
use Rattle.rule_tables.specs.declared.outer.Outer.{Outer}
use Rattle.rule_tables.specs.Faults.{fault_at, fault_of, first_fault, is_large, size_fault}
use Rattle.rule_tables.specs.Outer.{outer_after, outer_at}
use Rattle.rule_tables.specs.Rows.{AreSmall, end_of, level_of, row_at, row_by, size_of}
use Rattle.rule_tables.specs.Vocabulary.{Vocabulary}

or_is_none : {X : Type 0} (r s : Option X) → option_or r s ≡ None → (r ≡ None) × (s ≡ None)
or_is_none None s e = (refl, e)
or_is_none (Some x) s e = absurd (cc)

small_part : (i : ℕ) (p : Part) → size_fault i p ≡ None → (end_of i (size_of p) ≤ 65000) × (level_of p ≤ 65000)
small_part i p none =
    elim (cases_Bool (is_large i p)) [
      | inl large ↦ let wrong : Some TooMany ≡ None = rw large at none in absurd (cc)
      | inr small ↦ grind (arith, nat_tests)
    ]

pub outer_next : (parts : List Part) (i : ℕ) (d : Part) → i < length parts → outer_at parts (i + 1) ≡ outer_after (outer_at parts i) i (Some (get_or parts i d))
outer_next parts i d lt = rw (add-one, slice_get-get_or parts i d lt) refl

pub first_next : (fault : ℕ → Part → Option RulesError) (parts : List Part) (i : ℕ) (d : Part) → i < length parts → first_fault fault parts (i + 1) ≡ option_or (first_fault fault parts i) (fault i (get_or parts i d))
first_next fault parts i d lt = rw (add-one, slice_get-get_or parts i d lt) refl

pub row_here : (v : Vocabulary) (parts : List Part) (i : ℕ) (d : Part) (outer : Outer) (row : row.Part) → i < length parts → outer ≡ outer_at parts i → row ≡ row_by v parts outer i (get_or parts i d) → row_at v parts i ≡ Some row
row_here v parts i d outer row lt o e = rw (slice_get-get_or parts i d lt, ← o, ← e) refl

-- ---- faults

pub outer_step : (parts : List Part) (i : ℕ) (d : Part) (outer next : Outer) → i < length parts → outer ≡ outer_at parts i → next ≡ outer_after outer i (Some (get_or parts i d)) → next ≡ outer_at parts (i + 1)
outer_step parts i d outer next lt o e = e ∙ ap (λ (x : Outer). outer_after x i (Some (get_or parts i d))) o ∙ sym (outer_next parts i d lt)

pub fault_step : (fault : Outer → ℕ → Part → Option RulesError) (parts : List Part) (i : ℕ) (d : Part) (outer : Outer) (found here next : Option RulesError) → i < length parts → outer ≡ outer_at parts i
    → found ≡ first_fault (λ j. fault (outer_at parts j) j) parts i → here ≡ fault outer i (get_or parts i d) → next ≡ option_or found here → next ≡ first_fault (λ j. fault (outer_at parts j) j) parts (i + 1)
fault_step fault parts i d outer found here next lt o f h e =
    e ∙ ap (λ (x : Option RulesError). option_or x here) f ∙ ap (option_or (first_fault (λ j. fault (outer_at parts j) j) parts i)) (h ∙ ap (λ (x : Outer). fault x i (get_or parts i d)) o)
    ∙ sym (first_next (λ j. fault (outer_at parts j) j) parts i d lt)

-- where the first n parts have no fault, none of them has one
none_at : (fault : ℕ → Part → Option RulesError) (parts : List Part) (n i : ℕ) (p : Part) → first_fault fault parts n ≡ None → i < n → slice_get parts i ≡ Some p → fault i p ≡ None
none_at fault parts zero i p none lt is = absurd (omega (arith, lt))
none_at fault parts (suc n) i p none lt is =
    let parts_of : (first_fault fault parts n ≡ None) × (fault_at fault parts n ≡ None) = or_is_none (first_fault fault parts n) (fault_at fault parts n) none in
    elim (cases_eq i n) [
      | inl same ↦ ap (option_and_then (fault i)) (sym is) ∙ subst (λ (k : ℕ). fault_at fault parts k ≡ None) (sym same) parts_of.1
      | inr other ↦ none_at fault parts n i p parts_of.0 (omega (arith, lt, other)) is
    ]

-- parts without a fault are small
pub are_small : (v : Vocabulary) (parts : List Part) → fault_of v parts ≡ None → AreSmall parts
are_small v parts none i p is =
    let sizes : first_fault size_fault parts (length parts) ≡ None = (or_is_none _ (first_fault size_fault parts (length parts)) none).1 in
    small_part i p (none_at size_fault parts (length parts) i p sizes (slice_get_within parts i p is) is)

-- there are at most so many
pub few_parts : (parts : List Part) → AreSmall parts → length parts ≤ 65000
few_parts parts small =
    elim (slice_get_cases parts 65000).1 [
      | inl found ↦ absurd (omega (arith, (small 65000 found.0 found.2).0))
      | inr past ↦ past.0
    ]
