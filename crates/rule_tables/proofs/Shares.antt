-- What strands share, one after another.
use Rattle.std.proofs.Common.{◌≡◌, ◌∙◌, ◌⊎◌, ℕ, suc, ◌+◌, ◌<◌, ◌&&◌, ◌||◌, Bool, true, false, inl, inr, List, [], ◌∷◌, length, map, Option, Some, None, slice_get, slice_set, arith, ap, refl, sym, subst}
use Rattle.std.proofs.lemmas.Bool.{cases_eq, cases_lt}
use Rattle.std.proofs.lemmas.Option.{slice_get_within}
use Rattle.squawk_kinds.specs.TokenSets.{has}
use Rattle.squawk_kinds.specs.declared.token_set.TokenSet.{TokenSet}
use Rattle.rule_grammar.specs.Parts.{bit_of}
use Rattle.rule_parts.specs.declared.Part as parts
use Rattle.rule_tables.specs.Looks.{HasOne}
use Rattle.rule_tables.specs.Places.{Plan}
use Rattle.rule_tables.specs.Settled.{settles}
use Rattle.rule_tables.specs.Strands.{AreAlikeOn, AreDecidedAfter, AreDecidedBy, AreGroupsOn, AreListed, AreStrands, ComesLater, HasKind, IsFound, IsSharedBy, IsStrand, IsTold, IsToldBy, IsUpTo, SeesOn, Tells}
use Rattle.rule_tables.specs.declared.strands.Strand.{Strand}
use Rattle.rule_tables.specs.declared.strands.Open.{Open}
use Rattle.rule_tables.specs.declared.strands.Found.{Found}
use Rattle.rule_tables.specs.declared.trail.Trail.{Trail}
use Rattle.rule_tables.proofs.Deciding.{alike_sees, any_eaten, eaten_any, one_any}
use Rattle.rule_tables.proofs.Listing.{decided_as}
use Rattle.rule_tables.proofs.Telling.{told_before, told_last}

module _ (plan : Plan) (strands : List Strand) (are : AreStrands plan strands) where
  has_on : (row kind : ℕ) (word : List ℕ) → (on : SeesOn plan strands row (kind ∷ word)) → has on.strand.kinds kind ≡ true
  has_on row kind word on =
      let one : IsStrand plan on.strand = are.each on.index on.strand on.is in
      one.are kind ∙ eaten_any plan on.strand.places.items kind word one.eat on.from

  -- the later rows are before
  earlier_index : (i j : ℕ) (a b : Strand) → slice_get strands i ≡ Some a → slice_get strands j ≡ Some b → a.row < b.row → j < i
  earlier_index i j a b first second lt =
      elim (cases_lt j i) [
        | inl before ↦ before
        | inr late ↦
            elim (cases_eq i j) [
              | inl same ↦ let here : Some a ≡ Some b = sym first ∙ subst (λ (n : ℕ). slice_get strands n ≡ Some b) (sym same) second in let name : b ≡ a = cc in let rows : b.row ≡ a.row = ap (λ (s : Strand). s.row) name in absurd (omega (arith, lt))
              | inr other ↦ let falls : b.row < a.row = are.fall i j a b (omega arith) first second in absurd (omega (arith, lt))
            ]
      ]

  pub both_have : (row kind : ℕ) (word : List ℕ) → SeesOn plan strands row (kind ∷ word) → ComesLater (SeesOn plan strands) row (kind ∷ word)
      → (i : ℕ) × (s : Strand) × (slice_get strands i ≡ Some s) × (s.row ≡ row) × (has s.kinds kind ≡ true) × HasKind strands i kind
  both_have row kind word on later =
      let other : SeesOn plan strands later.later (kind ∷ word) = later.comes in (
        on.index,
        on.strand,
        on.is,
        on.of,
        has_on row kind word on,
        record {
          index = other.index;
          first = earlier_index on.index other.index on.strand other.strand on.is other.is (let lt : row < later.later = later.after in omega (arith, on.of, other.of));
          strand = other.strand;
          is = other.is;
          holds = has_on later.later kind word other;
        },
      )

  -- the kinds of a set that are eaten at the same places come where one of them does
  alike_on : (group : TokenSet) → AreAlikeOn plan strands group → (a b : ℕ) → has group a ≡ true → has group b ≡ true → (row : ℕ) (word : List ℕ) → SeesOn plan strands row (a ∷ word) → SeesOn plan strands row (b ∷ word)
  alike_on group alike a b in_a in_b row word on = record {
    index = on.index;
    strand = on.strand;
    is = on.is;
    of = on.of;
    from = alike_sees plan on.strand.places.items group (let one : IsStrand plan on.strand = are.each on.index on.strand on.is in one.eat) (alike on.index on.strand on.is) a b in_a in_b word on.from;
  }

  module _ (list : List parts.Part) where
    -- after a kind of a group, as after its least
    pub after_group : (group : TokenSet) (kind : ℕ) → has group kind ≡ true → AreAlikeOn plan strands group → (after : List Strand) → AreListed plan (λ row word. SeesOn plan strands row (kind ∷ word)) after → (count : ℕ) → 0 < count
        → (found : Option Open) → AreDecidedBy plan list (SeesOn plan after) count found → AreDecidedAfter plan list strands count group found
    after_group group kind holds alike after listed count some found decided other in_other =
        decided_as (λ row word. SeesOn plan strands row (other ∷ word)) (SeesOn plan after)
        (λ row next word on. listed.all row next word (alike_on group alike other kind in_other holds row (next ∷ word) on)) plan list count found some decided

    -- fewer than two share nothing
    few_word : length strands < 2 → (row : ℕ) (word : List ℕ) → 0 < length word → SeesOn plan strands row word → ComesLater (SeesOn plan strands) row word → ⊥
    few_word few row [] some on later = omega arith
    few_word few row (kind ∷ word) some on later =
        let both : (i : ℕ) × (s : Strand) × (slice_get strands i ≡ Some s) × (s.row ≡ row) × (has s.kinds kind ≡ true) × HasKind strands i kind = both_have row kind word on later in
        let within : both.0 < length strands = slice_get_within strands both.0 both.1 both.2 in
        let before : both.5.index < both.0 = both.5.first in
        omega (arith, few, within, before)

    pub decided_few : length strands < 2 → (count : ℕ) → 0 < count → (found : Option Open) → AreDecidedBy plan list (SeesOn plan strands) count found
    decided_few few count some found row up settled share = few_word few row share.word (omega (arith, share.len)) share.such.0 share.such.1

    -- one token decides
    last_word : (trail : Trail) (found : Found) → IsFound plan list strands trail (length strands) found → (row : ℕ) → IsUpTo found.undecided row → settles list plan.rows row ≡ false → (word : List ℕ) → 0 < length word → SeesOn plan strands row word → ComesLater (SeesOn plan strands) row word → ⊥
    last_word trail found all row up settled [] some on later = omega arith
    last_word trail found all row up settled (kind ∷ word) some on later =
        let both : (i : ℕ) × (s : Strand) × (slice_get strands i ≡ Some s) × (s.row ≡ row) × (has s.kinds kind ≡ true) × HasKind strands i kind = both_have row kind word on later in
        all.decided both.0 both.1 (slice_get_within strands both.0 both.1 both.2) both.2 (subst (IsUpTo found.undecided) (sym both.3) up) (subst (λ (r : ℕ). settles list plan.rows r ≡ false) (sym both.3) settled) kind both.4 both.5

    pub decided_last : (trail : Trail) (found : Found) → IsFound plan list strands trail (length strands) found → (count : ℕ) → 0 < count → AreDecidedBy plan list (SeesOn plan strands) count found.undecided
    decided_last trail found all count some row up settled share = last_word trail found all row up settled share.word (omega (arith, share.len)) share.such.0 share.such.1

    -- those after the groups do
    group_on : (trail : Trail) (found : Found) → trail.depth < 3 → IsFound plan list strands trail (length strands) found → (groups : List TokenSet) → AreGroupsOn plan strands (length strands) found.shared groups → (count : ℕ) (first : Option Open)
        → ((i : ℕ) (group : TokenSet) → slice_get groups i ≡ Some group → AreDecidedAfter plan list strands count group first)
        → (row : ℕ) → IsUpTo first row → settles list plan.rows row ≡ false → (word : List ℕ) → length word ≡ suc count → SeesOn plan strands row word → ComesLater (SeesOn plan strands) row word → ⊥
    group_on trail found few all groups cut count first none row up settled [] len on later = omega (arith, len)
    group_on trail found few all groups cut count first none row up settled (kind ∷ word) len on later =
        let both : (i : ℕ) × (s : Strand) × (slice_get strands i ≡ Some s) × (s.row ≡ row) × (has s.kinds kind ≡ true) × HasKind strands i kind = both_have row kind word on later in
        let one : HasOne groups kind = cut.all kind (all.shared few both.0 both.1 (slice_get_within strands both.0 both.1 both.2) both.2 kind both.4 both.5) in
        none one.index one.set one.is kind one.holds row up settled
        (record { word = word; len = omega (arith, len); such = (on, record { later = later.later; after = later.after; comes = later.comes }) })

    pub decided_groups : (trail : Trail) (found : Found) → trail.depth < 3 → IsFound plan list strands trail (length strands) found → (groups : List TokenSet) → AreGroupsOn plan strands (length strands) found.shared groups → (count more : ℕ) → more ≡ suc count
        → (first : Option Open) → ((i : ℕ) (group : TokenSet) → slice_get groups i ≡ Some group → AreDecidedAfter plan list strands count group first) → AreDecidedBy plan list (SeesOn plan strands) more first
    decided_groups trail found few all groups cut count more next first none row up settled share = group_on trail found few all groups cut count first none row up settled share.word (share.len ∙ next) share.such.0 share.such.1

    -- one group more
    pub decided_more : (groups : List TokenSet) (n : ℕ) (item : TokenSet) → slice_get groups n ≡ Some item → (count : ℕ) (one other first : Option Open) → ((row : ℕ) → IsUpTo first row → IsUpTo one row × IsUpTo other row) → AreDecidedAfter plan list strands count item other
        → ((i : ℕ) → i < n → (group : TokenSet) → slice_get groups i ≡ Some group → AreDecidedAfter plan list strands count group one) → (i : ℕ) → i < n + 1 → (group : TokenSet) → slice_get groups i ≡ Some group → AreDecidedAfter plan list strands count group first
    decided_more groups n item here count one other first up decided before i lt group is kind holds row below settled share =
        elim (cases_eq i n) [
          | inl same ↦
              let found : Some item ≡ Some group = sym here ∙ subst (λ (k : ℕ). slice_get groups k ≡ Some group) same is in
              let name : group ≡ item = cc in
              decided kind (subst (λ (set : TokenSet). has set kind ≡ true) name holds) row (up row below).1 settled share
          | inr past ↦ before i (omega (arith, lt, past)) group is kind holds row (up row below).0 settled share
        ]

    -- ---- what is told

    pub told_first_of : (P : ℕ → List ℕ → Type 0) (trail : Trail) (one other first : Option Open) → (first ≡ one) ⊎ (first ≡ other) → IsToldBy plan list P trail one → IsToldBy plan list P trail other → IsToldBy plan list P trail first
    told_first_of P trail one other first which told_one told_other =
        elim which [ inl same ↦ subst (IsToldBy plan list P trail) (sym same) told_one | inr same ↦ subst (IsToldBy plan list P trail) (sym same) told_other ]

    word_of : (row kind : ℕ) (i : ℕ) (s : Strand) → slice_get strands i ≡ Some s → s.row ≡ row → has s.kinds kind ≡ true → SeesOn plan strands row (kind ∷ [])
    word_of row kind i s is of holds =
        let one : IsStrand plan s = are.each i s is in
        record { index = i; strand = s; is = is; of = of; from = any_eaten plan s.places.items kind (sym (one.are kind) ∙ holds) }

    pub told_on : (trail : Trail) → trail.depth ≡ 3 → (found : Option Open) → IsTold plan list strands trail found → IsToldBy plan list (SeesOn plan strands) trail found
    told_on trail last None told = tt
    told_on trail last (Some one) told =
        let shared : IsSharedBy plan list told.strand trail told.later one = told.shared in
        let both : (has told.strand.kinds shared.kind ≡ true) × (has told.later shared.kind ≡ true) = one_any _ _ shared.both in
        let other : HasKind strands told.index shared.kind = told.known shared.kind both.1 in
        record {
          settled = λ lt. subst (λ (r : ℕ). settles list plan.rows r ≡ false) (sym shared.of) (shared.settled (omega (arith, last)) (subst (λ (r : ℕ). r < length plan.rows) shared.of lt));
          told = told_last (SeesOn plan strands) one.row trail one.kinds shared.kind last trail.four shared.len shared.told (word_of one.row shared.kind told.index told.strand told.is (sym shared.of) both.0) (record {
            later = other.strand.row;
            after = let falls : told.strand.row < other.strand.row = are.fall other.index told.index other.strand told.strand other.first other.is told.is in omega (arith, shared.of);
            comes = word_of other.strand.row shared.kind other.index other.strand other.is refl other.holds;
          });
        }

    pub told_group : (kind : ℕ) (after : List Strand) → AreListed plan (λ row word. SeesOn plan strands row (kind ∷ word)) after → (trail next : Trail) → trail.depth < 3 → next.depth ≡ trail.depth + 1 → map bit_of next.kinds ≡ slice_set (map bit_of trail.kinds) trail.depth kind
        → (found : Option Open) → IsToldBy plan list (SeesOn plan after) next found → IsToldBy plan list (SeesOn plan strands) trail found
    told_group kind after listed trail next few deeper is None told = tt
    told_group kind after listed trail next few deeper is (Some one) told = record {
      settled = told.settled;
      told = told_before (SeesOn plan strands) (SeesOn plan after) kind listed.only one.row trail next few trail.four deeper is one.kinds told.told;
    }

    -- ---- strands that are found, one after another

    or_true : (a b : Bool) → (a ≡ true) ⊎ (b ≡ true) → (a || b) ≡ true
    or_true true b one = refl
    or_true false b (inl one) = absurd cc
    or_true false b (inr one) = one

    or_one : (a b : Bool) → (a || b) ≡ true → (a ≡ true) ⊎ (b ≡ true)
    or_one true b e = inl refl
    or_one false b e = inr e

    and_true : (a b : Bool) → a ≡ true → b ≡ true → (a && b) ≡ true
    and_true a b e f = rw (e, f) refl

    last_kind : (n : ℕ) (s : Strand) → slice_get strands n ≡ Some s → (kind : ℕ) → HasKind strands (n + 1) kind → HasKind strands n kind ⊎ (has s.kinds kind ≡ true)
    last_kind n s here kind one =
        let lt : one.index < n + 1 = one.first in
        elim (cases_eq one.index n) [
          | inl same ↦
              let found : Some s ≡ Some one.strand = sym here ∙ subst (λ (k : ℕ). slice_get strands k ≡ Some one.strand) same one.is in
              let name : one.strand ≡ s = cc in
              inr (subst (λ (t : Strand). has t.kinds kind ≡ true) name one.holds)
          | inr other ↦ inl (record { index = one.index; first = omega (arith, lt, other); strand = one.strand; is = one.is; holds = one.holds })
        ]

    pub found_none : (trail : Trail) (found : Found) → found.undecided ≡ None → ((kind : ℕ) → has found.later kind ≡ false) → IsFound plan list strands trail 0 found
    found_none trail found no_one empty = record {
      later = λ kind one. let lt : one.index < 0 = one.first in absurd (omega arith);
      known = λ kind holds. let none : has found.later kind ≡ false = empty kind in absurd cc;
      shared = λ few i s lt. absurd (omega arith);
      decided = λ i s lt. absurd (omega arith);
      told = rw no_one tt;
    }

    module _ (trail : Trail) (n : ℕ) (before after : Found) (s : Strand) (here : slice_get strands n ≡ Some s) (found : IsFound plan list strands trail n before) (tells : Tells plan list s trail before after) where
      later_more : (kind : ℕ) → HasKind strands (n + 1) kind → has after.later kind ≡ true
      later_more kind one = tells.later kind ∙ or_true _ _ (elim (last_kind n s here kind one) [ inl old ↦ inl (found.later kind old) | inr new ↦ inr new ])

      known_more : (kind : ℕ) → has after.later kind ≡ true → HasKind strands (n + 1) kind
      known_more kind holds =
          elim (or_one _ _ (sym (tells.later kind) ∙ holds)) [
            | inl old ↦ let one : HasKind strands n kind = found.known kind old in record { index = one.index; first = omega (arith, one.first); strand = one.strand; is = one.is; holds = one.holds }
            | inr new ↦ record { index = n; first = omega arith; strand = s; is = here; holds = new }
          ]

      shared_more : trail.depth < 3 → (i : ℕ) (t : Strand) → i < n + 1 → slice_get strands i ≡ Some t → (kind : ℕ) → has t.kinds kind ≡ true → HasKind strands i kind → has after.shared kind ≡ true
      shared_more few i t lt is kind holds later =
          elim (cases_eq i n) [
            | inl same ↦
                let it : Some s ≡ Some t = sym here ∙ subst (λ (k : ℕ). slice_get strands k ≡ Some t) same is in
                let name : t ≡ s = cc in
                tells.shared few kind ∙ or_true _ _ (inr (and_true _ _ (subst (λ (x : Strand). has x.kinds kind ≡ true) name holds) (found.later kind (subst (λ (k : ℕ). HasKind strands k kind) same later))))
            | inr other ↦ tells.shared few kind ∙ or_true _ _ (inl (found.shared few i t (omega (arith, lt, other)) is kind holds later))
          ]

      decided_here : IsUpTo after.undecided s.row → settles list plan.rows s.row ≡ false → (kind : ℕ) → has s.kinds kind ≡ true → HasKind strands n kind → ⊥
      decided_here up settled kind holds later =
          elim tells.told [
            | inl it ↦ let lt : s.row < it.0.row = subst (λ (o : Option Open). IsUpTo o s.row) it.1 up in omega (arith, it.2.of)
            | inr none ↦ none.1 settled kind (and_true _ _ holds (found.later kind later))
          ]

      decided_old : (i : ℕ) (t : Strand) → i < n → slice_get strands i ≡ Some t → IsUpTo after.undecided t.row → IsUpTo before.undecided t.row
      decided_old i t lt is up =
          elim tells.told [
            | inl it ↦
                let less : t.row < it.0.row = subst (λ (o : Option Open). IsUpTo o t.row) it.1 up in
                let falls : s.row < t.row = are.fall i n t s lt is here in
                absurd (omega (arith, it.2.of))
            | inr none ↦ subst (λ (o : Option Open). IsUpTo o t.row) none.0 up
          ]

      pub found_more : IsFound plan list strands trail (n + 1) after
      found_more = record {
        later = later_more;
        known = known_more;
        shared = shared_more;
        decided = λ i t lt is up settled kind holds later.
            elim (cases_eq i n) [
              | inl same ↦
                  let it : Some s ≡ Some t = sym here ∙ subst (λ (k : ℕ). slice_get strands k ≡ Some t) same is in
                  let name : t ≡ s = cc in
                  decided_here (subst (λ (x : Strand). IsUpTo after.undecided x.row) name up) (subst (λ (x : Strand). settles list plan.rows x.row ≡ false) name settled) kind (subst (λ (x : Strand). has x.kinds kind ≡ true) name holds)
                  (subst (λ (k : ℕ). HasKind strands k kind) same later)
              | inr other ↦ found.decided i t (omega (arith, lt, other)) is (decided_old i t (omega (arith, lt, other)) is up) settled kind holds later
            ];
        told = elim tells.told [
          | inl it ↦ subst (IsTold plan list strands trail) (sym it.1) (record { index = n; strand = s; is = here; later = before.later; known = found.known; shared = it.2 })
          | inr none ↦ subst (IsTold plan list strands trail) (sym none.0) found.told
        ];
      }
