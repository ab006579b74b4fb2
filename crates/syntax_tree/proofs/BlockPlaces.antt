-- The places of blocks, as a builder adds them, and what they tell of a byte.
use Rattle.std.proofs.Common.{◌≡◌, ◌∙◌, inl, inr, ℕ, ◌+◌, ◌-◌, ◌*◌, ◌/◌, ◌<◌, ◌≤◌, List, [], ◌∷◌, ◌++◌, length, set, get_or, replicate, arith, ap, sym, subst, refl}
use Rattle.std.proofs.Math.Seq.{get_or-append_seam, map-set_same}
use Rattle.std.proofs.lemmas.Bool.{cases_lt}
use Rattle.std.proofs.lemmas.List.{length-append, length-replicate, length-map, map-append, get_or-map, get_or_append_left, get_or-append_right, get_or-replicate}
use Rattle.syntax_tree.specs.Layout.{Laid}
use Rattle.syntax_tree.specs.Views.{element_in, no_element}
use Rattle.syntax_tree.specs.Blocks.{starts_of, AreBelow, HasBlocks}
use Rattle.syntax_tree.specs.Offsets.{BeginBy, BeginBehind}
use Rattle.syntax_tree.specs.declared.element.Element.{Element}

-- no byte, and no element
pub HasBlocks-none : (blocks : List ℕ) (elements : List Element) → blocks ≡ [] → elements ≡ [] → HasBlocks blocks (starts_of elements) 0
HasBlocks-none blocks elements p q = record {
  all = omega (arith, ap length p);
  begun = λ i low. absurd (omega (arith, low, ap (λ l. length (starts_of l)) q));
  below = λ k low. absurd (omega (arith, low, ap length p));
}

module _ (blocks starts : List ℕ) (bytes : ℕ) (has : HasBlocks blocks starts bytes) where
  -- ---- an element at the end

  earlier : (i : ℕ) → i < length starts → get_or (starts ++ bytes ∷ []) i 0 ≡ get_or starts i 0
  earlier i low = get_or_append_left starts (bytes ∷ []) 0 i low

  newest : (i : ℕ) → length starts ≤ i → i < length (starts ++ bytes ∷ []) → get_or (starts ++ bytes ∷ []) i 0 ≡ bytes
  newest i above low =
      let e : i ≡ length starts = omega (arith, above, low, length-append starts (bytes ∷ [])) in
      ap (λ i. get_or (starts ++ bytes ∷ []) i 0) e ∙ get_or-append_seam starts bytes [] 0

  HasBlocks-grown : HasBlocks blocks (starts ++ bytes ∷ []) bytes
  HasBlocks-grown = record {
    all = has.all;
    begun = λ i low. elim (cases_lt i (length starts)) [
      | inl lt ↦ omega (arith, earlier i lt, has.begun i lt)
      | inr ge ↦ omega (arith, newest i ge low)
    ];
    below = λ k low. let old = has.below k low in record {
      within = omega (arith, old.within, length-append starts (bytes ∷ []));
      before = λ i lt. omega (arith, earlier i (omega (arith, lt, old.within)), old.before i lt);
      behind = λ i from low'. elim (cases_lt i (length starts)) [
        | inl lt ↦ omega (arith, earlier i lt, old.behind i from lt)
        | inr ge ↦ omega (arith, newest i ge low', has.all, low)
      ];
    };
  }

  -- ---- more bytes behind all elements

  module _ (bytes' place : ℕ) (more : bytes ≤ bytes') (place_is : place ≡ length starts) where
    abbrev added : List ℕ
    added = replicate (bytes' / 32 - length blocks) place

    enough : bytes / 32 ≤ bytes' / 32
    enough = omega (arith, more)

    all_below : (k p : ℕ) → length blocks ≤ k → p ≡ place → AreBelow starts (32 * (k + 1)) p
    all_below k p above same = record {
      within = omega (arith, same, place_is);
      before = λ i lt. omega (arith, has.begun i (omega (arith, lt, same, place_is)), has.all, above);
      behind = λ i from low. absurd (omega (arith, from, low, same, place_is));
    }

    HasBlocks-more : HasBlocks (blocks ++ added) starts bytes'
    HasBlocks-more = record {
      all = omega (arith, length-append blocks added, length-replicate (bytes' / 32 - length blocks) place, has.all, enough);
      begun = λ i low. omega (arith, has.begun i low, more);
      below = λ k low. elim (cases_lt k (length blocks)) [
        | inl lt ↦ subst (AreBelow starts (32 * (k + 1))) (sym (get_or_append_left blocks added 0 k lt)) (has.below k lt)
        | inr ge ↦
            let behind : k - length blocks < bytes' / 32 - length blocks =
            omega (arith, low, ge, length-append blocks added, length-replicate (bytes' / 32 - length blocks) place) in
            all_below k _ ge
            (get_or-append_right blocks added (length blocks) k 0 refl ge ∙ get_or-replicate (bytes' / 32 - length blocks) (k - length blocks) place 0 behind)
      ];
    }

-- behind an element that begins where the bytes end
starts-element : (elements elements' : List Element) (e : Element) (bytes : ℕ) → elements' ≡ elements ++ e ∷ [] → e.start ≡ bytes
    → starts_of elements' ≡ starts_of elements ++ bytes ∷ []
starts-element elements elements' e bytes put start =
    ap starts_of put ∙ (map-append (λ (e : Element). e.start) elements (e ∷ []) ∙ ap (λ b. starts_of elements ++ b ∷ []) start)

pub HasBlocks-element : (blocks : List ℕ) (elements elements' : List Element) (e : Element) (bytes : ℕ) → elements' ≡ elements ++ e ∷ [] → e.start ≡ bytes
    → HasBlocks blocks (starts_of elements) bytes → HasBlocks blocks (starts_of elements') bytes
HasBlocks-element blocks elements elements' e bytes put start has =
    subst (λ s. HasBlocks blocks s bytes) (sym (starts-element elements elements' e bytes put start)) (HasBlocks-grown blocks (starts_of elements) bytes has)

-- with more bytes behind it, and the places of the blocks that end in them
pub HasBlocks-filled : (blocks blocks' : List ℕ) (elements : List Element) (bytes bytes' place : ℕ) → bytes ≤ bytes' → place ≡ length elements
    → blocks' ≡ blocks ++ replicate (bytes' / 32 - length blocks) place → HasBlocks blocks (starts_of elements) bytes → HasBlocks blocks' (starts_of elements) bytes'
HasBlocks-filled blocks blocks' elements bytes bytes' place more place_is filled has =
    let all : place ≡ length (starts_of elements) = omega (arith, place_is, length-map elements (λ (e : Element). e.start)) in
    subst (λ b. HasBlocks b (starts_of elements) bytes') (sym filled) (HasBlocks-more blocks (starts_of elements) bytes has bytes' place more all)

-- of as many bytes
pub HasBlocks-bytes : (blocks starts : List ℕ) (bytes bytes' : ℕ) → bytes' ≡ bytes → HasBlocks blocks starts bytes → HasBlocks blocks starts bytes'
HasBlocks-bytes blocks starts bytes bytes' same has = subst (HasBlocks blocks starts) (sym same) has

-- where an element gives place to one that begins there too
starts-set : (elements : List Element) (i : ℕ) (old new : Element) → old ≡ get_or elements i old → new.start ≡ old.start → starts_of (set elements i new) ≡ starts_of elements
starts-set elements i old new is same = map-set_same (λ (e : Element). e.start) elements i new old (same ∙ ap (λ e. e.start) is)

pub HasBlocks-closed : (blocks : List ℕ) (elements : List Element) (i j : ℕ) (leaf leaf' node node' : Element) (bytes : ℕ) → leaf ≡ get_or elements i leaf
    → node ≡ get_or (set elements i leaf') j node → leaf'.start ≡ leaf.start → node'.start ≡ node.start
    → HasBlocks blocks (starts_of elements) bytes → HasBlocks blocks (starts_of (set (set elements i leaf') j node')) bytes
HasBlocks-closed blocks elements i j leaf leaf' node node' bytes leaf_is node_is p q has =
    subst (λ s. HasBlocks blocks s bytes)
    (sym (starts-set (set elements i leaf') j node node' node_is q ∙ starts-set elements i leaf leaf' leaf_is p)) has

-- ---- what they tell of a byte

module _ (laid : Laid) (blocks : List ℕ) (has : HasBlocks blocks (starts_of laid.elements) (length laid.text)) (byte : ℕ) where
  count : length (starts_of laid.elements) ≡ length laid.elements
  count = length-map laid.elements (λ (e : Element). e.start)

  start_is : (i : ℕ) → i < length laid.elements → get_or (starts_of laid.elements) i 0 ≡ (element_in laid i).start
  start_is i low = get_or-map (λ (e : Element). e.start) laid.elements i no_element 0 low

  pub BeginBy-block : (k place : ℕ) → k < length blocks → 32 * (k + 1) ≤ byte + 1 → place ≡ get_or blocks k 0 → BeginBy laid byte place
  BeginBy-block k place low by is =
      let here = has.below k low in
      record {
        within = omega (arith, here.within, is, count);
        begin = λ i lt. omega (arith, here.before i (omega (arith, lt, is)), start_is i (omega (arith, lt, is, here.within, count)), by);
      }

  pub BeginBehind-block : (k place : ℕ) → k < length blocks → byte < 32 * (k + 1) → place ≡ get_or blocks k 0 → BeginBehind laid byte place
  BeginBehind-block k place low behind is =
      let here = has.below k low in
      record {
        within = omega (arith, here.within, is, count);
        begin = λ i from lt. omega (arith, here.behind i (omega (arith, from, is)) (omega (arith, lt, count)), start_is i lt, behind);
      }
