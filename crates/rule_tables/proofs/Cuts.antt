-- Sets that are cut by others.
use Rattle.std.proofs.Common.{◌≡◌, ℕ, ◌+◌, ◌<◌, ◌≤◌, ◌&&◌, not, Bool, true, false, inl, inr, List, [], ◌∷◌, ◌++◌, length, Some, slice_get, arith, refl, sym, subst, ◌∙◌, length-append}
use Rattle.std.proofs.lemmas.Bool.{cases_Bool, cases_eq}
use Rattle.std.proofs.lemmas.Option.{slice_get_within}
use Rattle.squawk_kinds.specs.TokenSets.{has}
use Rattle.squawk_kinds.specs.declared.token_set.TokenSet.{TokenSet}
use Rattle.rule_tables.specs.Looks.{AddsSome, AreAlike, HasOne, IsCut, IsFiner}
use Rattle.rule_tables.specs.Places.{IsOneOf, Plan, eats}
use Rattle.rule_tables.specs.Strands.{AreGroupsOn}
use Rattle.rule_tables.specs.declared.place.Place.{Place}
use Rattle.rule_tables.specs.declared.strands.Strand.{Strand}
use Rattle.rule_tables.proofs.Lists.{slice_get-front, slice_get-seam}

first_true : (a b : Bool) → (a && b) ≡ true → a ≡ true
first_true true b e = refl
first_true false b e = e

second_true : (a b : Bool) → (a && b) ≡ true → b ≡ true
second_true true b e = e
second_true false b e = absurd cc

not_false : (b : Bool) → not b ≡ true → b ≡ false
not_false true e = absurd cc
not_false false e = refl

-- a set is added
pub adds_one : (sets new : List TokenSet) (set : TokenSet) → new ≡ sets ++ set ∷ [] → AddsSome sets set new
adds_one sets new set is = record {
  keeps = λ kind one. record { index = one.index; set = one.set; is = rw is (slice_get-front sets (set ∷ []) one.index (slice_get_within sets one.index one.set one.is) ∙ one.is); holds = one.holds };
  adds = λ kind holds. record { index = length sets; set = set; is = rw is (slice_get-seam sets set); holds = holds };
  only = λ i one found.
      elim (cases_eq i (length sets)) [
        | inl same ↦
            let here : Some set ≡ Some one = sym (slice_get-seam sets set) ∙ subst (λ (k : ℕ). slice_get (sets ++ set ∷ []) k ≡ Some one) same (rw is at found) in
            inr (let name : one ≡ set = cc in name)
        | inr other ↦
            let within : i < length (sets ++ set ∷ []) = slice_get_within (sets ++ set ∷ []) i one (rw is at found) in
            inl (sym (slice_get-front sets (set ∷ []) i (omega (arith, length-append sets (set ∷ [])))) ∙ rw is at found)
      ];
}

-- or it has no kind
pub adds_none : (sets : List TokenSet) (set : TokenSet) → ((kind : ℕ) → has set kind ≡ false) → AddsSome sets set sets
adds_none sets set none = record {
  keeps = λ kind one. one;
  adds = λ kind holds. let lacks : has set kind ≡ false = none kind in absurd cc;
  only = λ i one found. inl found;
}

-- the first n sets are cut
pub record IsCutting (sets : List TokenSet) (kinds : TokenSet) (n : ℕ) (cut : List TokenSet) : Type 0 where
  pub keeps : (kind i : ℕ) → i < n → (set : TokenSet) → slice_get sets i ≡ Some set → has set kind ≡ true → HasOne cut kind
  pub within : (i : ℕ) (set : TokenSet) → slice_get cut i ≡ Some set → (j : ℕ) × (old : TokenSet) × (slice_get sets j ≡ Some old) × ((kind : ℕ) → has set kind ≡ true → has old kind ≡ true)
  pub alike : (i : ℕ) (set : TokenSet) → slice_get cut i ≡ Some set → (a b : ℕ) → has set a ≡ true → has set b ≡ true → has kinds a ≡ has kinds b

module _ (sets : List TokenSet) (kinds : TokenSet) (n : ℕ) (before between after : List TokenSet) (set in_both in_one : TokenSet) (here : slice_get sets n ≡ Some set)
    (both : (kind : ℕ) → has in_both kind ≡ (has set kind && has kinds kind)) (without : (kind : ℕ) → has in_one kind ≡ (has set kind && not (has kinds kind)))
    (first : AddsSome before in_both between) (second : AddsSome between in_one after) (cutting : IsCutting sets kinds n before) where
  keeps_here : (kind : ℕ) → has set kind ≡ true → HasOne after kind
  keeps_here kind holds =
      elim (cases_Bool (has kinds kind)) [
        | inl inside ↦ second.keeps kind (first.adds kind (both kind ∙ rw (holds, inside) refl))
        | inr outside ↦ second.adds kind (without kind ∙ rw (holds, outside) refl)
      ]

  pub cutting_more : IsCutting sets kinds (n + 1) after
  cutting_more = record {
    keeps = λ kind i lt one is holds.
        elim (cases_eq i n) [
          | inl same ↦
              let found : Some set ≡ Some one = sym here ∙ subst (λ (k : ℕ). slice_get sets k ≡ Some one) same is in
              let name : one ≡ set = cc in
              keeps_here kind (subst (λ (s : TokenSet). has s kind ≡ true) name holds)
          | inr other ↦ second.keeps kind (first.keeps kind (cutting.keeps kind i (omega arith) one is holds))
        ];
    within = λ i one is.
        elim (second.only i one is) [
          | inl old ↦
              elim (first.only i one old) [
                | inl older ↦ cutting.within i one older
                | inr name ↦ (n, set, here, λ kind holds. first_true (has set kind) (has kinds kind) (sym (both kind) ∙ subst (λ (s : TokenSet). has s kind ≡ true) name holds))
              ]
          | inr name ↦ (n, set, here, λ kind holds. first_true (has set kind) (not (has kinds kind)) (sym (without kind) ∙ subst (λ (s : TokenSet). has s kind ≡ true) name holds))
        ];
    alike = λ i one is a b in_a in_b.
        elim (second.only i one is) [
          | inl old ↦
              elim (first.only i one old) [
                | inl older ↦ cutting.alike i one older a b in_a in_b
                | inr name ↦
                    let yes_a : has kinds a ≡ true = second_true (has set a) (has kinds a) (sym (both a) ∙ subst (λ (s : TokenSet). has s a ≡ true) name in_a) in
                    let yes_b : has kinds b ≡ true = second_true (has set b) (has kinds b) (sym (both b) ∙ subst (λ (s : TokenSet). has s b ≡ true) name in_b) in
                    yes_a ∙ sym yes_b
              ]
          | inr name ↦
              let no_a : has kinds a ≡ false = not_false (has kinds a) (second_true (has set a) (not (has kinds a)) (sym (without a) ∙ subst (λ (s : TokenSet). has s a ≡ true) name in_a)) in
              let no_b : has kinds b ≡ false = not_false (has kinds b) (second_true (has set b) (not (has kinds b)) (sym (without b) ∙ subst (λ (s : TokenSet). has s b ≡ true) name in_b)) in
              no_a ∙ sym no_b
        ];
  }

pub cutting_done : (sets : List TokenSet) (kinds : TokenSet) (n : ℕ) (cut : List TokenSet) → length sets ≤ n → IsCutting sets kinds n cut → IsCut sets kinds cut
cutting_done sets kinds n cut all cutting = record {
  finer = record {
    keeps = λ kind one. cutting.keeps kind one.index (let lt : one.index < length sets = slice_get_within sets one.index one.set one.is in omega arith) one.set one.is one.holds;
    within = cutting.within;
  };
  alike = cutting.alike;
}

pub finer_then : {a b c : List TokenSet} → IsFiner a b → IsFiner b c → IsFiner a c
finer_then {a} {b} {c} r s = record {
  keeps = λ kind one. s.keeps kind (r.keeps kind one);
  within = λ i set is.
      let mid : (j : ℕ) × (old : TokenSet) × (slice_get b j ≡ Some old) × ((kind : ℕ) → has set kind ≡ true → has old kind ≡ true) = s.within i set is in
      let low : (j : ℕ) × (old : TokenSet) × (slice_get a j ≡ Some old) × ((kind : ℕ) → has mid.1 kind ≡ true → has old kind ≡ true) = r.within mid.0 mid.1 mid.2 in
      (low.0, low.1, low.2, λ kind holds. low.3 kind (mid.3 kind holds));
}

pub alike_more : (plan : Plan) (places : List Place) (n : ℕ) (sets before after : List TokenSet) (place : Place) (kinds : TokenSet) → slice_get places n ≡ Some place → ((kind : ℕ) → has kinds kind ≡ eats plan place kind)
    → IsCut before kinds after → AreAlike plan places n sets before → AreAlike plan places (n + 1) sets after
alike_more plan places n sets before after place kinds here are cut alike = record {
  finer = finer_then alike.finer cut.finer;
  alike = λ i set is a b in_a in_b k lt p found.
      elim (cases_eq k n) [
        | inl same ↦
            let it : Some place ≡ Some p = sym here ∙ subst (λ (x : ℕ). slice_get places x ≡ Some p) same found in
            let name : p ≡ place = cc in
            subst (λ (x : Place). eats plan x a ≡ eats plan x b) (sym name) (sym (are a) ∙ cut.alike i set is a b in_a in_b ∙ are b)
        | inr other ↦
            let old : (j : ℕ) × (one : TokenSet) × (slice_get before j ≡ Some one) × ((kind : ℕ) → has set kind ≡ true → has one kind ≡ true) = cut.finer.within i set is in
            alike.alike old.0 old.1 old.2 a b (old.3 a in_a) (old.3 b in_b) k (omega arith) p found
      ];
}

-- ---- of each strand

pub groups_none : (plan : Plan) (strands : List Strand) (n : ℕ) (set : TokenSet) (groups : List TokenSet) → groups ≡ [] → ((kind : ℕ) → has set kind ≡ false) → AreGroupsOn plan strands n set groups
groups_none plan strands n set groups is empty = record {
  all = λ kind holds. let none : has set kind ≡ false = empty kind in absurd cc;
  alike = λ g group found. absurd (let one : slice_get [] g ≡ Some group = rw is at found in cc);
}

pub groups_first : (plan : Plan) (strands : List Strand) (set : TokenSet) (groups : List TokenSet) → groups ≡ set ∷ [] → AreGroupsOn plan strands 0 set groups
groups_first plan strands set groups is = record {
  all = λ kind holds. record { index = 0; set = set; is = rw is refl; holds = holds };
  alike = λ g group found i s lt. absurd (omega arith);
}

pub groups_more : (plan : Plan) (strands : List Strand) (n : ℕ) (set : TokenSet) (before after : List TokenSet) (s : Strand) → slice_get strands n ≡ Some s → AreGroupsOn plan strands n set before → AreAlike plan s.places.items (length s.places.items) before after
    → AreGroupsOn plan strands (n + 1) set after
groups_more plan strands n set before after s here groups alike = record {
  all = λ kind holds. alike.finer.keeps kind (groups.all kind holds);
  alike = λ g group is i t lt found a b in_a in_b p one.
      elim (cases_eq i n) [
        | inl same ↦
            let it : Some s ≡ Some t = sym here ∙ subst (λ (k : ℕ). slice_get strands k ≡ Some t) same found in
            let name : t ≡ s = cc in
            let at : IsOneOf s.places.items p = subst (λ (x : Strand). IsOneOf x.places.items p) name one in
            alike.alike g group is a b in_a in_b at.index (slice_get_within s.places.items at.index p at.is) p at.is
        | inr other ↦
            let old : (j : ℕ) × (low : TokenSet) × (slice_get before j ≡ Some low) × ((kind : ℕ) → has group kind ≡ true → has low kind ≡ true) = alike.finer.within g group is in
            groups.alike old.0 old.1 old.2 i t (omega (arith, lt, other)) found a b (old.3 a in_a) (old.3 b in_b) p one
      ];
}
