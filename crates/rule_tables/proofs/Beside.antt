-- The arms or operators in a row, from the last one, and what it means that tokens decide between them.
use Rattle.std.proofs.Common.{◌≡◌, ◌∙◌, ◌⊎◌, ℕ, ◌+◌, ◌-◌, ◌<◌, ◌≤◌, true, false, inl, inr, List, [], ◌∷◌, length, Option, Some, None, slice_get, arith, refl, sym, subst}
use Rattle.std.proofs.lemmas.Bool.{cases_eq}
use Rattle.rule_grammar.specs.declared.part.Part.{Part}
use Rattle.rule_grammar.specs.declared.part.Part.TheVariants.{Arm, Tail}
use Rattle.rule_parts.specs.declared.Part as parts
use Rattle.rule_tables.specs.Maps.{leads_to}
use Rattle.rule_tables.specs.Places.{AreTold, ComeBoth, ComesTwoWays, IsUndecidedRow, Plan, Sees, SeesRival, goal_of, last_below, leads_as, led_to, outer_of}
use Rattle.rule_tables.specs.Settled.{settles}
use Rattle.rule_tables.specs.Strands.{AddsStrand, AreDecidedBy, AreListed, AreWaysDecided, ComesAt, ComesLater, ComesOn, IsIn, IsStrandOf, IsToldBy, IsUndecidedHere, IsUpTo, IsWayUndecided, SeesOn, ShareBoth}
use Rattle.rule_tables.specs.Strands.IsIn.{arm, tail}
use Rattle.rule_tables.specs.declared.place.Place.{Place}
use Rattle.rule_tables.specs.declared.place.Place.TheVariants.{After}
use Rattle.rule_tables.specs.declared.place.Way.{Way}
use Rattle.rule_tables.specs.declared.place.Way.TheVariants as way
use Rattle.rule_tables.specs.declared.strands.Open.{Open}
use Rattle.rule_tables.specs.declared.strands.Strand.{Strand}
use Rattle.rule_tables.specs.declared.trail.Trail.{Trail}
use Rattle.rule_tables.proofs.Below.{last-none, last-some, rank, rank-below}
use Rattle.rule_tables.proofs.Leading.{leads_there, leads_within, there}
use Rattle.rule_tables.proofs.Listing.{IsListing, decided_as, listing_done, listing_more, listing_next, listing_none}
use Rattle.rule_tables.proofs.Telling.{told_as, told_first}

-- ---- the strands of arms or operators, of those rows that are not before the next one

pub record IsListingWays (plan : Plan) (way : Way) (h : ℕ) (at : Option ℕ) (strands : List Strand) : Type 0 where
  pub m : ℕ
  pub is : at ≡ last_below (leads_to plan.rows h) m
  pub listing : IsListing plan (ComesOn plan way h) m strands

pub ways_none : (plan : Plan) (way : Way) (h : ℕ) (at : Option ℕ) → at ≡ last_below (leads_to plan.rows h) (length plan.rows) → IsListingWays plan way h at []
ways_none plan w h at is = record {
  m = length plan.rows;
  is = is;
  listing = listing_none plan (ComesOn plan w h) (length plan.rows) (λ row late kind word comes. let lt : row < length plan.rows = leads_within plan.rows w h row comes.leads in omega arith);
}

module _ (plan : Plan) (w : Way) (h : ℕ) (at : Option ℕ) (strands : List Strand) (ways : IsListingWays plan w h at strands) where
  pub ways_done : at ≡ None → AreListed plan (ComesOn plan w h) strands
  ways_done is =
      listing_done plan (ComesOn plan w h) ways.m strands ways.listing
      (λ row before kind word comes.
      let none : leads_to plan.rows h row ≡ false = last-none (leads_to plan.rows h) ways.m (sym ways.is ∙ is) row before in
      let some : leads_to plan.rows h row ≡ true = leads_there h (goal_of plan.rows row (slice_get plan.rows row)) comes.leads.goal in
      cc)

  module _ (k : ℕ) (is : at ≡ Some k) where
    pub ways_row : (k < ways.m) × (leads_to plan.rows h k ≡ true) × ((i : ℕ) → k < i → i < ways.m → leads_to plan.rows h i ≡ false)
    ways_row = last-some (leads_to plan.rows h) ways.m k (sym ways.is ∙ is)

    pub ways_next : (earlier : Option ℕ) → earlier ≡ last_below (leads_to plan.rows h) k → (new : List Strand) → AddsStrand plan (leads_as w (slice_get plan.rows k)) (Sees plan (led_to w k)) k strands new → IsListingWays plan w h earlier new
    ways_next earlier before new adds = record {
      m = k;
      is = before;
      listing = listing_more plan (ComesOn plan w h) ways.m strands ways.listing k ways_row.0
          (λ row high low kind word comes.
          let none : leads_to plan.rows h row ≡ false = ways_row.2 row high low in
          let some : leads_to plan.rows h row ≡ true = leads_there h (goal_of plan.rows row (slice_get plan.rows row)) comes.leads.goal in
          cc)
          (leads_as w (slice_get plan.rows k)) (Sees plan (led_to w k))
          (λ passed kind word comes. comes.sees)
          (λ passed kind word sees. record { leads = record { by = passed; goal = there h (goal_of plan.rows k (slice_get plan.rows k)) ways_row.1 }; sees = sees })
          (λ failed kind word comes. let passed : leads_as w (slice_get plan.rows k) ≡ true = comes.leads.by in cc)
          new adds;
    }

    pub ways_smaller : (earlier : Option ℕ) → earlier ≡ last_below (leads_to plan.rows h) k → rank earlier < rank at
    ways_smaller earlier before =
        let below : rank earlier ≤ k = rw before (rank-below (leads_to plan.rows h) k) in
        rw is (omega (arith, below))

-- ---- what is undecided, of arms and operators

arm_two : (plan : Plan) (h k : ℕ) (row : Option Part) → leads_as way.Arm row ≡ true → goal_of plan.rows k row ≡ Some h → (word : List ℕ) → ComesOn plan way.Arm h k word → ComesLater (ComesOn plan way.Arm h) k word → ComesTwoWays plan k row word
arm_two plan h k (Some (Arm end)) by goal word on later =
    (on.sees, record { outer = h; rival = later.later; inside = goal; beside = let comes : ComesOn plan way.Arm h later.later word = later.comes in comes.leads; later = later.after; sees = let comes : ComesOn plan way.Arm h later.later word = later.comes in comes.sees })
arm_two plan h k row by goal word on later = absurd cc

tail_two : (plan : Plan) (h k : ℕ) (row : Option Part) → leads_as way.Tail row ≡ true → goal_of plan.rows k row ≡ Some h → (word : List ℕ) → ComesOn plan way.Tail h k word → ComesLater (ComesOn plan way.Tail h) k word → ComesTwoWays plan k row word
tail_two plan h k (Some (Tail end level top)) by goal word on later =
    (on.sees, record { outer = h; rival = later.later; inside = goal; beside = let comes : ComesOn plan way.Tail h later.later word = later.comes in comes.leads; later = later.after; sees = let comes : ComesOn plan way.Tail h later.later word = later.comes in comes.sees })
tail_two plan h k row by goal word on later = absurd cc

two_ways : (plan : Plan) (w : Way) → IsIn w → (h k : ℕ) (word : List ℕ) → ComesOn plan w h k word → ComesLater (ComesOn plan w h) k word → ComesTwoWays plan k (slice_get plan.rows k) word
two_ways plan w arm h k word on later = arm_two plan h k (slice_get plan.rows k) on.leads.by on.leads.goal word on later
two_ways plan w tail h k word on later = tail_two plan h k (slice_get plan.rows k) on.leads.by on.leads.goal word on later

module _ (plan : Plan) (list : List parts.Part) where
  pub way_told : (w : Way) → IsIn w → (h : ℕ) (strands : List Strand) → AreListed plan (ComesOn plan w h) strands → (trail : Trail) → trail.depth ≡ 0 → (found : Option Open) → IsToldBy plan list (SeesOn plan strands) trail found → IsWayUndecided plan list found
  way_told w in_way h strands listed trail first None told = tt
  way_told w in_way h strands listed trail first (Some one) told =
      let both : AreTold (ComeBoth (ComesOn plan w h one.row) (ComesLater (ComesOn plan w h) one.row)) one.kinds =
      told_as (SeesOn plan strands) (ComesOn plan w h) listed.only one.row one.kinds (told_first (SeesOn plan strands) one.row trail first one.kinds told.told) in
      (told.settled (leads_within plan.rows w h one.row both.1.0.leads), (both.0, two_ways plan w in_way h one.row _ both.1.0 both.1.1))

  pub way_decided : (w : Way) (h : ℕ) (strands : List Strand) → AreListed plan (ComesOn plan w h) strands → (trail : Trail) → trail.depth ≡ 0 → (found : Option Open) → AreDecidedBy plan list (SeesOn plan strands) (4 - trail.depth) found → AreDecidedBy plan list (ComesOn plan w h) 4 found
  way_decided w h strands listed trail first found decided =
      decided_as (ComesOn plan w h) (SeesOn plan strands) listed.all plan list 4 found (omega arith) (subst (λ (n : ℕ). AreDecidedBy plan list (SeesOn plan strands) n found) (let e : 4 - trail.depth ≡ 4 = omega (arith, first) in e) decided)

  -- no row leads to this one
  pub none_lead : (w : Way) (h : ℕ) → last_below (leads_to plan.rows h) (length plan.rows) ≡ None → (found : Option Open) → AreDecidedBy plan list (ComesOn plan w h) 4 found
  none_lead w h none found row up settled share =
      let on : ComesOn plan w h row share.word = share.such.0 in
      let off : leads_to plan.rows h row ≡ false = last-none (leads_to plan.rows h) (length plan.rows) none row (leads_within plan.rows w h row on.leads) in
      let leads : leads_to plan.rows h row ≡ true = leads_there h (goal_of plan.rows row (slice_get plan.rows row)) on.leads.goal in
      cc

  first_told : (first one other : Option Open) → (first ≡ one) ⊎ (first ≡ other) → IsWayUndecided plan list one → IsWayUndecided plan list other → IsWayUndecided plan list first
  first_told first one other which told_one told_other = elim which [ inl same ↦ subst (IsWayUndecided plan list) (sym same) told_one | inr same ↦ subst (IsWayUndecided plan list) (sym same) told_other ]

  -- those in one row more
  module _ (n : ℕ) (old found first : Option Open) (before : AreWaysDecided plan list n old) (up : (row : ℕ) → IsUpTo first row → IsUpTo old row × IsUpTo found row) where
    below_more : (w : Way) → AreDecidedBy plan list (ComesOn plan w n) 4 found → ((h : ℕ) → h < n → AreDecidedBy plan list (ComesOn plan w h) 4 old) → (h : ℕ) → h < n + 1 → AreDecidedBy plan list (ComesOn plan w h) 4 first
    below_more w here decided h lt row below settled share =
        elim (cases_eq h n) [
          | inl same ↦ here row (up row below).1 settled (subst (λ (k : ℕ). ShareBoth (ComesOn plan w k) 4 row) same share)
          | inr less ↦ decided h (omega (arith, lt, less)) row (up row below).0 settled share
        ]

    pub ways_more : (first ≡ old) ⊎ (first ≡ found) → IsWayUndecided plan list found → AreDecidedBy plan list (ComesOn plan way.Arm n) 4 found → AreDecidedBy plan list (ComesOn plan way.Tail n) 4 found → AreWaysDecided plan list (n + 1) first
    ways_more which told arms tails = record {
      told = first_told first old found which before.told told;
      arms = below_more way.Arm arms before.arms;
      tails = below_more way.Tail tails before.tails;
    }

  within_rows : (k outer : ℕ) → k < length plan.rows → outer_of plan.rows k ≡ Some outer → outer < length plan.rows
  within_rows k outer lt inside = let below : outer < k = (last-some _ k outer inside).0 in omega (arith, lt)

  module _ (found : Option Open) (ways : AreWaysDecided plan list (length plan.rows) found) (k : ℕ) (within : k < length plan.rows) (up : IsUpTo found k) (settled : settles list plan.rows k ≡ false) where
    pub arm_decided : (end : ℕ) → slice_get plan.rows k ≡ Some (Arm end) → IsUndecidedRow plan k (Some (Arm end)) → ⊥
    arm_decided end here share =
        let rival : SeesRival plan way.Arm k share.word = share.such.1 in
        ways.arms rival.outer (within_rows k rival.outer within rival.inside) k up settled
        (record {
          word = share.word;
          len = share.len;
          such = (record { leads = record { by = rw here refl; goal = rw here rival.inside }; sees = share.such.0 }, record { later = rival.rival; after = rival.later; comes = record { leads = rival.beside; sees = rival.sees } });
        })

    pub tail_decided : (end level top : ℕ) → slice_get plan.rows k ≡ Some (Tail end level top) → IsUndecidedRow plan k (Some (Tail end level top)) → ⊥
    tail_decided end level top here share =
        let rival : SeesRival plan way.Tail k share.word = share.such.1 in
        ways.tails rival.outer (within_rows k rival.outer within rival.inside) k up settled
        (record {
          word = share.word;
          len = share.len;
          such = (record { leads = record { by = rw here refl; goal = rw here rival.inside }; sees = share.such.0 }, record { later = rival.rival; after = rival.later; comes = record { leads = rival.beside; sees = rival.sees } });
        })

-- ---- two ways at a part

module _ (plan : Plan) (place : Place) (part : ℕ) where
  pub listing_two : (mine others : Strand) → IsStrandOf plan (Sees plan place) part mine → IsStrandOf plan (Sees plan (After part)) (part + 1) others → AreListed plan (ComesAt plan place part) (others ∷ mine ∷ [])
  listing_two mine others is_mine is_others =
      let none : IsListing plan (ComesAt plan place part) (part + 2) [] = listing_none plan (ComesAt plan place part) (part + 2) (λ row late kind word comes. elim comes [ inl it ↦ omega (arith, it.0) | inr it ↦ omega (arith, it.0) ]) in
      let one : IsListing plan (ComesAt plan place part) (part + 1) (others ∷ []) =
      listing_next plan (ComesAt plan place part) (part + 2) [] none (part + 1) (omega arith) (λ row high low kind word comes. omega arith) (Sees plan (After part))
      (λ kind word comes. elim comes [ inl it ↦ absurd (omega (arith, it.0)) | inr it ↦ it.1 ]) (λ kind word sees. inr (refl, sees)) others is_others in
      let two : IsListing plan (ComesAt plan place part) part (others ∷ mine ∷ []) =
      listing_next plan (ComesAt plan place part) (part + 1) (others ∷ []) one part (omega arith) (λ row high low kind word comes. omega arith) (Sees plan place)
      (λ kind word comes. elim comes [ inl it ↦ it.1 | inr it ↦ absurd (omega (arith, it.0)) ]) (λ kind word sees. inl (refl, sees)) mine is_mine in
      listing_done plan (ComesAt plan place part) part (others ∷ mine ∷ []) two (λ row before kind word comes. elim comes [ inl it ↦ omega (arith, it.0) | inr it ↦ omega (arith, it.0) ])

  later_at : (k : ℕ) (word : List ℕ) → ComesAt plan place part k word → ComesLater (ComesAt plan place part) k word → (k ≡ part) × ComeBoth (Sees plan place) (Sees plan (After part)) word
  later_at k word on later =
      let lt : k < later.later = later.after in
      elim later.comes [
        | inl it ↦ elim on [ inl mine ↦ absurd (omega (arith, it.0, mine.0)) | inr other ↦ absurd (omega (arith, it.0, other.0)) ]
        | inr it ↦ elim on [ inl mine ↦ (mine.0, (mine.1, it.1)) | inr other ↦ absurd (omega (arith, it.0, other.0)) ]
      ]

  module _ (list : List parts.Part) (strands : List Strand) (listed : AreListed plan (ComesAt plan place part) strands) (trail : Trail) (first : trail.depth ≡ 0) where
    pub two_told : part < length plan.rows → (one : Open) → IsUndecidedHere plan list (SeesOn plan strands) trail one → (settles list plan.rows part ≡ false) × AreTold (ComeBoth (Sees plan place) (Sees plan (After part))) one.kinds
    two_told within one here =
        let both : AreTold (ComeBoth (ComesAt plan place part one.row) (ComesLater (ComesAt plan place part) one.row)) one.kinds =
        told_as (SeesOn plan strands) (ComesAt plan place part) listed.only one.row one.kinds (told_first (SeesOn plan strands) one.row trail first one.kinds here.told) in
        let two : (one.row ≡ part) × ComeBoth (Sees plan place) (Sees plan (After part)) _ = later_at one.row _ both.1.0 both.1.1 in (
          subst (λ (r : ℕ). settles list plan.rows r ≡ false) two.0 (here.settled (omega (arith, within, two.0))),
          (both.0, two.1),
        )

    pub two_decided : AreDecidedBy plan list (SeesOn plan strands) (4 - trail.depth) None → settles list plan.rows part ≡ false → (word : List ℕ) → length word ≡ 4 → ComeBoth (Sees plan place) (Sees plan (After part)) word → ⊥
    two_decided decided settled word len both =
        decided_as (ComesAt plan place part) (SeesOn plan strands) listed.all plan list 4 None (omega arith) (subst (λ (n : ℕ). AreDecidedBy plan list (SeesOn plan strands) n None) (let e : 4 - trail.depth ≡ 4 = omega (arith, first) in e) decided)
        part tt settled (record { word = word; len = len; such = (inl (refl, both.0), record { later = part + 1; after = omega arith; comes = inr (refl, both.1) }) })
