-- The slot of a kind's first pair, also of those from a slot on, and the name there.
use Rattle.std.proofs.Common.{arith, ◌≡◌, ◌∙◌, ℕ, ◌+◌, ◌<◌, ◌≤◌, ◌==◌, true, false, Bool, ◌≢◌, List, length, map, drop, get_or, set, ap, sym, refl, add-zero, add-one, drop-cons, get_or-set_same, get_or-set_other}
use Rattle.std.specs.Prelude.{Option, Some, None, option_map}
use Rattle.std.specs.Borrow.{Bor}
use Rattle.std.specs.List.{slice_get}
use Rattle.std.proofs.lemmas.Bool.Decides.{nat_tests}
use Rattle.std.proofs.lemmas.List.Folds.{find_at}
use Rattle.std.proofs.lemmas.List.{drop_all}
use Rattle.std.proofs.lemmas.Option.{slice_get-map, slice_get-get_or, slice_get_past}
use Rattle.squawk_kinds.specs.KindNames.{Names, first_name}
use Rattle.squawk_kinds.specs.FirstSlots.{first_slot}

-- a pair as it lies in memory
abbrev pub Pair : Type 0
Pair = ℕ × Bor (List ℕ)

-- such pairs
abbrev pub Pairs : Type 0
Pairs = List Pair

-- the same as a caller knows them
abbrev pub names_of : Pairs → Names
names_of = map (λ pair. (pair.0, pair.1.now))

-- the slot of a kind's first pair from a slot on
abbrev pub first_from : Pairs → ℕ → ℕ → ℕ
first_from pairs slot kind = slot + first_slot (names_of (drop slot pairs)) kind

-- the pair at the slot is one of the kind
pub first_from-here : (pairs : Pairs) (slot kind : ℕ) (pair : Pair) → slot < length pairs → ((get_or pairs slot pair).0 == kind) ≡ true → first_from pairs slot kind ≡ slot
first_from-here pairs slot kind pair within same =
    ap (λ rest. slot + first_slot (names_of rest) kind) (drop-cons pairs slot pair within) ∙ rw same (add-zero slot)

-- the pair at the slot isn't one of the kind
pub first_from-past : (pairs : Pairs) (slot kind : ℕ) (pair : Pair) → slot < length pairs → ((get_or pairs slot pair).0 == kind) ≡ false
    → first_from pairs slot kind ≡ first_from pairs (slot + 1) kind
first_from-past pairs slot kind pair within other =
    ap (λ rest. slot + first_slot (names_of rest) kind) (drop-cons pairs slot pair within) ∙ rw (other, add-one slot) (omega arith)

-- the name at the slot of the first pair
first_name-there : (pairs : Pairs) (names : Names) (kind slot : ℕ) (got : Option Pair) → names_of pairs ≡ names → slot ≡ first_slot names kind → slice_get pairs slot ≡ got
    → first_name names kind ≡ option_map (λ (pair : Pair). pair.1.now) got
first_name-there pairs names kind slot got own at is =
    ap (option_map (λ (pair : ℕ × List ℕ). pair.1))
    (find_at (λ pair. pair.0 == kind) names ∙ (ap (slice_get names) (sym at) ∙ (ap (λ names. slice_get names slot) (sym own)
    ∙ (slice_get-map (λ pair. (pair.0, pair.1.now)) pairs slot ∙ ap (option_map (λ (pair : Pair). (pair.0, pair.1.now))) is))))
    ∙ names_in got
  where
    names_in : (got : Option Pair) → option_map (λ (pair : ℕ × List ℕ). pair.1) (option_map (λ (pair : Pair). (pair.0, pair.1.now)) got) ≡ option_map (λ (pair : Pair). pair.1.now) got
    names_in None = refl
    names_in (Some pair) = refl

-- the pair there names the kind
pub first_name-at : (pairs : Pairs) (names : Names) (kind slot : ℕ) (pair : Pair) → names_of pairs ≡ names → slot ≡ first_slot names kind
    → slot < length pairs → pair ≡ get_or pairs slot pair → first_name names kind ≡ Some pair.1.now
first_name-at pairs names kind slot pair own at within here =
    first_name-there pairs names kind slot (Some pair) own at (slice_get-get_or pairs slot pair within ∙ ap (λ pair. Some pair) (sym here))

-- past the last there is no name
pub first_name-past : (pairs : Pairs) (names : Names) (kind slot : ℕ) → names_of pairs ≡ names → slot ≡ first_slot names kind
    → length pairs ≤ slot → first_name names kind ≡ None
first_name-past pairs names kind slot own at past = first_name-there pairs names kind slot None own at (slice_get_past pairs slot past)

-- ---- an index

-- an index of the pairs from the next slot on becomes one from this slot on
pub IsIndex-more : (pairs : Pairs) (index : List ℕ) (slot next number : ℕ) (pair : Pair) → next ≡ slot + 1 → slot < length pairs
    → number ≡ (get_or pairs slot pair).0 → number < length index → ((kind : ℕ) → get_or index kind (length pairs) ≡ first_from pairs next kind)
    → (kind : ℕ) → get_or (set index number slot) kind (length pairs) ≡ first_from pairs slot kind
IsIndex-more pairs index slot next number pair after within its inside indexed kind = by_case (number == kind) refl
  where
    by_case : (b : Bool) → (number == kind) ≡ b → get_or (set index number slot) kind (length pairs) ≡ first_from pairs slot kind
    by_case true h =
        let same : kind ≡ number = grind (arith, nat_tests) in
        rw same (get_or-set_same index number slot (length pairs) inside)
        ∙ sym (first_from-here pairs slot kind pair within (ap (λ number. number == kind) (sym its) ∙ h))
    by_case false h =
        let other : kind ≢ number = grind (arith, nat_tests) in
        get_or-set_other index number kind slot (length pairs) other
        ∙ (indexed kind ∙ (ap (λ next. first_from pairs next kind) after
        ∙ sym (first_from-past pairs slot kind pair within (ap (λ number. number == kind) (sym its) ∙ h))))
