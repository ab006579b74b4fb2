-- Which token has a byte, and which tokens touch an offset.
use Rattle.std.proofs.Common.{◌≡◌, ◌∙◌, inl, inr, ℕ, zero, suc, ◌+◌, ◌-◌, ◌<◌, ◌≤◌, List, length, drop, slice_range, arith, ap, sym, subst, get_or, true, false, leb}
use Rattle.std.specs.List.Sorted.{IsPartitionedBy, IsPartitionPoint}
use Rattle.std.proofs.lemmas.Bool.{cases_lt, cases_Bool, leb-true, leb-false, le-leb, lt-leb}
use Rattle.std.proofs.lemmas.List.{get_or_default, get_or-take, get_or-drop, length-drop, length-take-le}
use Rattle.squawk_tree.specs.Forest.{Forest}
use Rattle.syntax_tree.specs.Trees.{size, forest_at, is_token_at, size_at, start_at, end_at, TouchesOne, TouchesTwo}
use Rattle.syntax_tree.specs.Layout.{Laid, IsTree}
use Rattle.syntax_tree.specs.Views.{no_element}
use Rattle.syntax_tree.specs.Offsets.{BeginBy, BeginBehind}
use Rattle.syntax_tree.specs.declared.element.Element.{Element}
use Rattle.syntax_tree.proofs.Places.{reads, some_element}
use Rattle.syntax_tree.proofs.Texts.{slices, elements_are, bytes_are, start-first, start-all}
use Rattle.syntax_tree.proofs.Apart.{token_inner, begins_with}

-- a place is that of a token that has a byte
pub record HasByte (laid : Laid) (tree : Forest) (byte at : ℕ) : Type 0 where
  pub below : at < length laid.elements
  pub is_token : is_token_at tree at ≡ true
  pub starts : start_at tree at ≤ byte
  pub ends : byte < end_at tree at

-- of what is known of an element of a tree
pub byte_of : (laid held : Laid) (tree : Forest) (byte at : ℕ) → held ≡ laid → at < length held.elements
    → (is_token_at tree at ≡ true) × (start_at tree at ≤ byte) × (byte < end_at tree at) → HasByte laid tree byte at
byte_of laid held tree byte at same below has =
    record { below = subst (λ l. at < length l.elements) same below; is_token = has.0; starts = has.1; ends = has.2 }

module _ (laid : Laid) (tree : Forest) (is : IsTree laid tree) where
  count : length laid.elements ≡ size tree
  count = elements_are laid tree is

  -- a token ends where the next element begins
  token_end : (at : ℕ) → is_token_at tree at ≡ true → end_at tree at ≡ start_at tree (suc at)
  token_end at token =
      let next : at + size_at tree at ≡ suc at = omega (arith, ap size (token_inner (forest_at tree at) token)) in
      ap (start_at tree) next

  -- elements begin in their order
  rises-one : (at : ℕ) → at < length laid.elements → start_at tree at ≤ start_at tree (suc at)
  rises-one at below =
      elim (cases_Bool (is_token_at tree at)) [
        | inl token ↦ omega (arith, token_end at token, (slices laid tree is at below).ascends)
        | inr node ↦ omega (arith, begins_with tree at (omega (arith, below, count)) node)
      ]

  pub rises : (i j : ℕ) → i ≤ j → j ≤ length laid.elements → start_at tree i ≤ start_at tree j
  rises i zero le within = let e : i ≡ 0 = omega arith in omega (arith, ap (start_at tree) e)
  rises i (suc j) le within =
      elim (cases_lt j i) [
        | inl gt ↦ let e : i ≡ suc j = omega arith in omega (arith, ap (start_at tree) e)
        | inr ge ↦ omega (arith, rises i j ge (omega arith), rises-one j (omega arith))
      ]

  pub end_is : start_at tree (length laid.elements) ≡ length laid.text
  end_is = ap (start_at tree) count ∙ (start-all tree ∙ sym (bytes_are laid tree is))

  -- ---- the token of a byte

  module _ (byte : ℕ) (low : byte < length laid.text) where
    starts_at : (k : ℕ) (d : Element) → k < length laid.elements → (get_or laid.elements k d).start ≡ start_at tree k
    starts_at k d below = ap (λ e. e.start) (get_or_default laid.elements k d no_element below) ∙ (reads laid tree is k below).start

    parted : IsPartitionedBy (λ e. leb e.start byte) laid.elements
    parted i j d le below passes =
        le-leb (get_or laid.elements i d).start byte
        (omega (arith, starts_at i d (omega arith), starts_at j d below, rises i j le (omega arith), leb-true (get_or laid.elements j d).start byte passes))

    found : (n : ℕ) → n ≤ length laid.elements → IsPartitionPoint (λ e. leb e.start byte ≡ true) (λ e. leb e.start byte ≡ false) laid.elements n
        → (1 ≤ n) × HasByte laid tree byte (n - 1)
    found n within point =
        let late : (k : ℕ) → n ≤ k → k < length laid.elements → byte < start_at tree k =
        λ k ge below. omega (arith, starts_at k no_element below, leb-false (get_or laid.elements k no_element).start byte (point.1 k no_element ge below)) in
        let positive : 1 ≤ n =
        elim (cases_lt 0 n) [
          | inl gt ↦ omega arith
          | inr none ↦ absurd (omega (arith, late 0 (omega arith) (some_element laid tree is), start-first tree))
        ] in
        let at = n - 1 in
        let early : start_at tree at ≤ byte =
        omega (arith, starts_at at no_element (omega arith), leb-true (get_or laid.elements at no_element).start byte (point.0 at no_element (omega arith) (omega arith))) in
        let next : suc at ≡ n = omega arith in
        let behind : byte < start_at tree (suc at) =
        elim (cases_lt n (length laid.elements)) [
          | inl lt ↦ omega (arith, late n (omega arith) lt, ap (start_at tree) next)
          | inr ge ↦ let last : suc at ≡ length laid.elements = omega arith in omega (arith, ap (start_at tree) last, end_is)
        ] in
        let token : is_token_at tree at ≡ true =
        elim (cases_Bool (is_token_at tree at)) [
          | inl token ↦ token
          | inr node ↦ absurd (omega (arith, begins_with tree at (omega (arith, count)) node, early, behind))
        ] in
        (positive, record { below = omega arith; is_token = token; starts = early; ends = omega (arith, token_end at token) })

    -- found by halving, among the elements between two places
    module _ (from stop : ℕ) (by : BeginBy laid byte from) (late : BeginBehind laid byte stop) where
      pub in_order : from ≤ stop
      in_order =
          elim (cases_lt stop from) [
            | inl lt ↦ absurd (omega (arith, by.begin stop lt, late.begin stop (omega arith) (omega (arith, lt, by.within))))
            | inr le ↦ le
          ]

      abbrev part : List Element
      part = slice_range laid.elements from stop

      length-part : length part ≡ stop - from
      length-part =
          let rest = length-drop from laid.elements in
          length-take-le (stop - from) (drop from laid.elements) (omega (arith, rest, late.within))

      read : (i : ℕ) (d : Element) → i < stop - from → get_or part i d ≡ get_or laid.elements (from + i) d
      read i d low = get_or-take (stop - from) (drop from laid.elements) i d low ∙ get_or-drop from laid.elements i d

      passes_is : (i : ℕ) (d : Element) → i < stop - from → leb (get_or part i d).start byte ≡ leb (get_or laid.elements (from + i) d).start byte
      passes_is i d low = ap (λ e. leb e.start byte) (read i d low)

      parted_part : IsPartitionedBy (λ e. leb e.start byte) part
      parted_part i j d le below passes =
          let low : j < stop - from = omega (arith, below, length-part) in
          passes_is i d (omega (arith, le, low))
          ∙ parted (from + i) (from + j) d (omega (arith, le)) (omega (arith, low, late.within)) (sym (passes_is j d low) ∙ passes)

      whole : (n : ℕ) → n ≤ stop - from → IsPartitionPoint (λ e. leb e.start byte ≡ true) (λ e. leb e.start byte ≡ false) part n
          → IsPartitionPoint (λ e. leb e.start byte ≡ true) (λ e. leb e.start byte ≡ false) laid.elements (from + n)
      whole n bound point = (
        λ k d above below.
            elim (cases_lt k from) [
              | inl lt ↦
                  le-leb (get_or laid.elements k d).start byte
                  (omega (arith, by.begin k lt, ap (λ e. e.start) (get_or_default laid.elements k d no_element (omega (arith, lt, by.within)))))
              | inr ge ↦
                  let here : from + (k - from) ≡ k = omega (arith, ge) in
                  subst (λ i. leb (get_or laid.elements i d).start byte ≡ true) here
                  (sym (passes_is (k - from) d (omega (arith, ge, below, bound))) ∙ point.0 (k - from) d (omega arith) (omega (arith, ge, below)))
            ],
        λ k d above below.
            elim (cases_lt k stop) [
              | inl lt ↦
                  let here : from + (k - from) ≡ k = omega (arith, above) in
                  subst (λ i. leb (get_or laid.elements i d).start byte ≡ false) here
                  (sym (passes_is (k - from) d (omega (arith, above, lt))) ∙ point.1 (k - from) d (omega (arith, above)) (omega (arith, above, lt, length-part)))
              | inr ge ↦
                  lt-leb (get_or laid.elements k d).start byte
                  (omega (arith, late.begin k ge below, ap (λ e. e.start) (get_or_default laid.elements k d no_element below)))
            ],
      )

      pub token_found : (elements : List Element) → elements ≡ part → (n : ℕ) → n ≤ length elements
          → (IsPartitionedBy (λ e. leb e.start byte) elements → IsPartitionPoint (λ e. leb e.start byte ≡ true) (λ e. leb e.start byte ≡ false) elements n)
          → (1 ≤ from + n) × HasByte laid tree byte (from + n - 1)
      token_found elements same n bound point =
          let point' = subst (λ l. IsPartitionedBy (λ e. leb e.start byte) l → IsPartitionPoint (λ e. leb e.start byte ≡ true) (λ e. leb e.start byte ≡ false) l n) same point in
          let few : n ≤ stop - from = omega (arith, bound, ap length same, length-part) in
          found (from + n) (omega (arith, few, in_order, late.within)) (whole n few (point' parted_part))

  -- ---- the tokens at an offset

  -- the last one, at the end of the text
  pub touches_end : (byte at : ℕ) → HasByte laid tree byte at → byte + 1 ≡ length laid.text → TouchesOne tree (byte + 1) at
  touches_end byte at has end =
      let here = slices laid tree is at has.below in
      let bytes = bytes_are laid tree is in
      record {
        is_token = has.is_token;
        begins = inl (let starts = has.starts in omega arith);
        ends = inr (omega arith, let ends = has.ends in let within = here.within in omega arith);
      }

  -- two of them
  pub touches_two : (offset left right : ℕ) → 1 ≤ offset → HasByte laid tree (offset - 1) left → HasByte laid tree offset right → offset ≤ start_at tree right → TouchesTwo tree offset left right
  touches_two offset left right positive l r from =
      let l_starts = l.starts in
      let l_ends = l.ends in
      let r_starts = r.starts in
      let order : left < right =
      elim (cases_lt left right) [
        | inl lt ↦ lt
        | inr ge ↦ let below = l.below in absurd (omega (arith, rises right left ge (omega arith)))
      ] in
      record {
        left_is_token = l.is_token;
        right_is_token = r.is_token;
        ends = let below = r.below in omega (arith, token_end left l.is_token, rises (suc left) right (omega arith) (omega arith));
        begins = omega arith;
      }
