-- Strands that are added one after another, and what comes on them.
use Rattle.std.proofs.Common.{◌≡◌, ◌∙◌, ℕ, ◌+◌, ◌<◌, ◌≤◌, ◌⊎◌, Bool, true, false, inl, inr, List, [], ◌∷◌, ◌++◌, length, Option, Some, slice_get, arith, ap, refl, sym, subst, length-append}
use Rattle.std.proofs.lemmas.Bool.{cases_eq, cases_lt}
use Rattle.std.proofs.lemmas.Option.{slice_get_within}
use Rattle.squawk_kinds.specs.TokenSets.{has}
use Rattle.rule_parts.specs.declared.Part as parts
use Rattle.rule_tables.specs.Places.{Plan, SeesFrom}
use Rattle.rule_tables.specs.Strands.{AddsStrand, AreDecidedBy, AreListed, AreStrands, ComesLater, IsStrand, IsStrandOf, SeesOn}
use Rattle.rule_tables.specs.Walks.{AreFirst}
use Rattle.rule_tables.specs.declared.place.Place.{Place}
use Rattle.rule_tables.specs.declared.strands.Strand.{Strand}
use Rattle.rule_tables.specs.declared.strands.Open.{Open}
use Rattle.rule_tables.proofs.Deciding.{eaten_any}
use Rattle.rule_tables.proofs.Lists.{slice_get-front, slice_get-seam}

-- an item of a list with one more
last_or : {X : Type 0} (xs : List X) (y : X) (i : ℕ) (z : X) → slice_get (xs ++ y ∷ []) i ≡ Some z → ((i < length xs) × (slice_get xs i ≡ Some z)) ⊎ ((i ≡ length xs) × (z ≡ y))
last_or xs y i z is =
    elim (cases_eq i (length xs)) [
      | inl same ↦ inr (same, let here : Some y ≡ Some z = sym (slice_get-seam xs y) ∙ subst (λ (k : ℕ). slice_get (xs ++ y ∷ []) k ≡ Some z) same is in cc)
      | inr other ↦
          let within : i < length (xs ++ y ∷ []) = slice_get_within (xs ++ y ∷ []) i z is in
          let lt : i < length xs = omega (arith, length-append xs (y ∷ [])) in
          inl (lt, sym (slice_get-front xs (y ∷ []) i lt) ∙ is)
    ]

-- a strand of places that eat first
pub strand_at : (plan : Plan) (Such : List ℕ → Type 0) (row : ℕ) (s : Strand) (places : List Place) → s.row ≡ row → IsStrand plan s → s.places.items ≡ places → AreFirst plan Such places → IsStrandOf plan Such row s
strand_at plan Such row s places of is same first = record { of = of; is = is; first = subst (AreFirst plan Such) (sym same) first }

-- ---- strands, as far as row m

pub record IsListing (plan : Plan) (Comes : ℕ → List ℕ → Type 0) (m : ℕ) (strands : List Strand) : Type 0 where
  pub are : AreStrands plan strands
  pub past : (i : ℕ) (s : Strand) → slice_get strands i ≡ Some s → m ≤ s.row
  pub all : (row : ℕ) → m ≤ row → (kind : ℕ) (word : List ℕ) → Comes row (kind ∷ word) → SeesOn plan strands row (kind ∷ word)
  pub only : (row kind : ℕ) (word : List ℕ) → SeesOn plan strands row (kind ∷ word) → Comes row (kind ∷ word)

pub listing_none : (plan : Plan) (Comes : ℕ → List ℕ → Type 0) (m : ℕ) → ((row : ℕ) → m ≤ row → (kind : ℕ) (word : List ℕ) → Comes row (kind ∷ word) → ⊥) → IsListing plan Comes m []
listing_none plan Comes m none = record {
  are = record { each = λ i s is. absurd cc; fall = λ i j a b lt is. absurd cc };
  past = λ i s is. absurd cc;
  all = λ row late kind word comes. absurd (none row late kind word comes);
  only = λ row kind word on. absurd (let is : slice_get [] on.index ≡ Some on.strand = on.is in cc);
}

module _ (plan : Plan) (Comes : ℕ → List ℕ → Type 0) (m : ℕ) (strands : List Strand) (listing : IsListing plan Comes m strands) where
  -- the others have none
  pub listing_done : ((row : ℕ) → row < m → (kind : ℕ) (word : List ℕ) → Comes row (kind ∷ word) → ⊥) → AreListed plan Comes strands
  listing_done none = record {
    are = listing.are;
    all = λ row kind word comes. elim (cases_lt row m) [ inl before ↦ absurd (none row before kind word comes) | inr late ↦ listing.all row late kind word comes ];
    only = listing.only;
  }

  module _ (k : ℕ) (below : k < m) (gap : (row : ℕ) → k < row → row < m → (kind : ℕ) (word : List ℕ) → Comes row (kind ∷ word) → ⊥) where
    -- this one has none
    pub listing_past : ((kind : ℕ) (word : List ℕ) → Comes k (kind ∷ word) → ⊥) → IsListing plan Comes k strands
    listing_past none = record {
      are = listing.are;
      past = λ i s is. let late : m ≤ s.row = listing.past i s is in omega (arith, below);
      all = λ row late kind word comes.
          elim (cases_lt row m) [
            | inl before ↦ elim (cases_eq row k) [ inl same ↦ absurd (none kind word (subst (λ (r : ℕ). Comes r (kind ∷ word)) same comes)) | inr other ↦ absurd (gap row (omega arith) before kind word comes) ]
            | inr past ↦ listing.all row past kind word comes
          ];
      only = listing.only;
    }

    -- or its strand is added
    module _ (Such : List ℕ → Type 0) (to : (kind : ℕ) (word : List ℕ) → Comes k (kind ∷ word) → Such (kind ∷ word)) (back : (kind : ℕ) (word : List ℕ) → Such (kind ∷ word) → Comes k (kind ∷ word)) (s : Strand) (one : IsStrandOf plan Such k s) where
      on_front : (row : ℕ) (word : List ℕ) → SeesOn plan strands row word → SeesOn plan (strands ++ s ∷ []) row word
      on_front row word on = record { index = on.index; strand = on.strand; is = slice_get-front strands (s ∷ []) on.index (slice_get_within strands on.index on.strand on.is) ∙ on.is; of = on.of; from = on.from }

      pub listing_next : IsListing plan Comes k (strands ++ s ∷ [])
      listing_next = record {
        are = record {
          each = λ i t is. elim (last_or strands s i t is) [ inl old ↦ listing.are.each i t old.1 | inr new ↦ subst (IsStrand plan) (sym new.1) one.is ];
          fall = λ i j a b lt first second.
              elim (last_or strands s j b second) [
                | inl old ↦ listing.are.fall i j a b lt (sym (slice_get-front strands (s ∷ []) i (omega (arith, lt, old.0))) ∙ first) old.1
                | inr new ↦
                    let front : slice_get strands i ≡ Some a = sym (slice_get-front strands (s ∷ []) i (omega (arith, lt, new.0))) ∙ first in
                    let late : m ≤ a.row = listing.past i a front in
                    let same : b.row ≡ k = ap (λ (t : Strand). t.row) new.1 ∙ one.of in
                    omega (arith, below)
              ];
        };
        past = λ i t is.
            elim (last_or strands s i t is) [
              | inl old ↦ let late : m ≤ t.row = listing.past i t old.1 in omega (arith, below)
              | inr new ↦ let same : t.row ≡ k = ap (λ (x : Strand). x.row) new.1 ∙ one.of in omega arith
            ];
        all = λ row late kind word comes.
            elim (cases_lt row m) [
              | inl before ↦
                  elim (cases_eq row k) [
                    | inl same ↦ record { index = length strands; strand = s; is = slice_get-seam strands s; of = one.of ∙ sym same; from = one.first.all kind word (to kind word (subst (λ (r : ℕ). Comes r (kind ∷ word)) same comes)) }
                    | inr other ↦ absurd (gap row (omega arith) before kind word comes)
                  ]
              | inr past ↦ on_front row (kind ∷ word) (listing.all row past kind word comes)
            ];
        only = λ row kind word on.
            elim (last_or strands s on.index on.strand on.is) [
              | inl old ↦ listing.only row kind word (record { index = on.index; strand = on.strand; is = old.1; of = on.of; from = on.from })
              | inr new ↦
                  let same : k ≡ row = sym one.of ∙ sym (ap (λ (t : Strand). t.row) new.1) ∙ on.of in
                  subst (λ (r : ℕ). Comes r (kind ∷ word)) same (back kind word (one.first.only kind word (subst (λ (t : Strand). SeesFrom plan t.places.items (kind ∷ word)) new.1 on.from)))
            ];
      }

    -- either, by a test
    pub listing_more : (test : Bool) (Such : List ℕ → Type 0) → (test ≡ true → (kind : ℕ) (word : List ℕ) → Comes k (kind ∷ word) → Such (kind ∷ word)) → (test ≡ true → (kind : ℕ) (word : List ℕ) → Such (kind ∷ word) → Comes k (kind ∷ word))
        → (test ≡ false → (kind : ℕ) (word : List ℕ) → Comes k (kind ∷ word) → ⊥) → (new : List Strand) → AddsStrand plan test Such k strands new → IsListing plan Comes k new
    listing_more test Such to back none new adds =
        elim adds [
          | inl passed ↦ subst (IsListing plan Comes k) (sym passed.3) (listing_next Such (to passed.0) (back passed.0) passed.1 passed.2)
          | inr failed ↦ subst (IsListing plan Comes k) (sym failed.1) (listing_past (none failed.0))
        ]

-- ---- what they share

-- what comes otherwise is shared otherwise
module _ (P Q : ℕ → List ℕ → Type 0) (to : (row kind : ℕ) (word : List ℕ) → P row (kind ∷ word) → Q row (kind ∷ word)) where
  pub both_as : (row : ℕ) (word : List ℕ) → 0 < length word → P row word → ComesLater P row word → Q row word × ComesLater Q row word
  both_as row [] some first second = absurd (omega arith)
  both_as row (kind ∷ word) some first second = (to row kind word first, record { later = second.later; after = second.after; comes = to second.later kind word second.comes })

  pub decided_as : (plan : Plan) (list : List parts.Part) (count : ℕ) (found : Option Open) → 0 < count → AreDecidedBy plan list Q count found → AreDecidedBy plan list P count found
  decided_as plan list count found some decided row up settled share =
      decided row up settled (record { word = share.word; len = share.len; such = both_as row share.word (omega (arith, share.len)) share.such.0 share.such.1 })

-- ---- the strands after a token

-- of the first n strands those that eat a kind
pub record IsGoing (plan : Plan) (strands : List Strand) (kind n : ℕ) (after : List Strand) : Type 0 where
  pub m : ℕ
  pub listing : IsListing plan (λ row word. SeesOn plan strands row (kind ∷ word)) m after
  pub above : (i : ℕ) (s : Strand) → i < n → slice_get strands i ≡ Some s → m ≤ s.row
  pub below : (i : ℕ) (s : Strand) → n ≤ i → slice_get strands i ≡ Some s → s.row < m

module _ (plan : Plan) (strands : List Strand) (are : AreStrands plan strands) (kind : ℕ) where
  top_of : (list : List Strand) → ((i j : ℕ) (a b : Strand) → i < j → slice_get list i ≡ Some a → slice_get list j ≡ Some b → b.row < a.row) → (m : ℕ) × ((i : ℕ) (s : Strand) → slice_get list i ≡ Some s → s.row < m)
  top_of [] fall = (0, λ i s is. absurd cc)
  top_of (first ∷ list) fall = (
    first.row + 1,
    λ i s is.
        elim (cases_eq i 0) [
          | inl same ↦ let here : Some first ≡ Some s = subst (λ (k : ℕ). slice_get (first ∷ list) k ≡ Some s) same is in let name : s ≡ first = cc in let rows : s.row ≡ first.row = ap (λ (t : Strand). t.row) name in omega arith
          | inr other ↦ let falls : s.row < first.row = fall 0 i first s (omega arith) refl is in omega arith
        ],
  )

  pub going_none : IsGoing plan strands kind 0 []
  going_none =
      let top : (m : ℕ) × ((i : ℕ) (s : Strand) → slice_get strands i ≡ Some s → s.row < m) = top_of strands are.fall in
      record {
        m = top.0;
        listing = listing_none plan (λ row word. SeesOn plan strands row (kind ∷ word)) top.0 (λ row late next word on. let lt : on.strand.row < top.0 = top.1 on.index on.strand on.is in omega (arith, on.of));
        above = λ i s lt. absurd (omega arith);
        below = λ i s late is. top.1 i s is;
      }

  module _ (n : ℕ) (after new : List Strand) (s : Strand) (here : slice_get strands n ≡ Some s) (going : IsGoing plan strands kind n after) where
    -- the index of a strand by its row
    here_or : (row : ℕ) (word : List ℕ) → (on : SeesOn plan strands row word) → row < going.m → s.row ≤ row → on.strand ≡ s
    here_or row word on below late =
        elim (cases_lt on.index n) [
          | inl before ↦ let high : going.m ≤ on.strand.row = going.above on.index on.strand before on.is in absurd (omega (arith, on.of))
          | inr past ↦
              elim (cases_eq on.index n) [
                | inl same ↦ let found : Some s ≡ Some on.strand = sym here ∙ subst (λ (k : ℕ). slice_get strands k ≡ Some on.strand) same on.is in cc
                | inr other ↦ let falls : on.strand.row < s.row = are.fall n on.index s on.strand (omega arith) here on.is in absurd (omega (arith, on.of))
              ]
        ]

    pub going_more : AddsStrand plan (has s.kinds kind) (λ word. SeesFrom plan s.places.items (kind ∷ word)) s.row after new → IsGoing plan strands kind (n + 1) new
    going_more adds =
        let lt : s.row < going.m = going.below n s (omega arith) here in
        let one : IsStrand plan s = are.each n s here in
        record {
          m = s.row;
          listing = listing_more plan (λ row word. SeesOn plan strands row (kind ∷ word)) going.m after going.listing s.row lt
              (λ row high low next word on. let name : on.strand ≡ s = here_or row (kind ∷ next ∷ word) on low (omega arith) in let rows : on.strand.row ≡ s.row = ap (λ (t : Strand). t.row) name in omega (arith, on.of))
              (has s.kinds kind) (λ word. SeesFrom plan s.places.items (kind ∷ word))
              (λ passed next word on. subst (λ (t : Strand). SeesFrom plan t.places.items (kind ∷ next ∷ word)) (here_or s.row (kind ∷ next ∷ word) on lt (omega arith)) on.from)
              (λ passed next word from. record { index = n; strand = s; is = here; of = refl; from = from })
              (λ failed next word on.
              let from : SeesFrom plan s.places.items (kind ∷ next ∷ word) = subst (λ (t : Strand). SeesFrom plan t.places.items (kind ∷ next ∷ word)) (here_or s.row (kind ∷ next ∷ word) on lt (omega arith)) on.from in
              let holds : has s.kinds kind ≡ true = one.are kind ∙ eaten_any plan s.places.items kind (next ∷ word) one.eat from in
              absurd cc)
              new adds;
          above = λ i t before is.
              elim (cases_eq i n) [
                | inl same ↦ let found : Some s ≡ Some t = sym here ∙ subst (λ (k : ℕ). slice_get strands k ≡ Some t) same is in let name : t ≡ s = cc in let rows : t.row ≡ s.row = ap (λ (x : Strand). x.row) name in omega arith
                | inr other ↦ let high : going.m ≤ t.row = going.above i t (omega arith) is in omega arith
              ];
          below = λ i t late is. are.fall n i s t (omega arith) here is;
        }

  pub going_done : (n : ℕ) (after : List Strand) → length strands ≤ n → IsGoing plan strands kind n after → AreListed plan (λ row word. SeesOn plan strands row (kind ∷ word)) after
  going_done n after all going =
      listing_done plan (λ row word. SeesOn plan strands row (kind ∷ word)) going.m after going.listing
      (λ row before next word on.
      let high : going.m ≤ on.strand.row = going.above on.index on.strand (let lt : on.index < length strands = slice_get_within strands on.index on.strand on.is in omega arith) on.is in
      omega (arith, on.of))
