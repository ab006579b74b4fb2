-- Which element has the bytes of a range.
use Rattle.std.proofs.Common.{◌≡◌, ◌∙◌, ◌⊎◌, inl, inr, ℕ, suc, ◌+◌, ◌-◌, ◌<◌, ◌≤◌, min, length, arith, ap, sym, subst}
use Rattle.std.proofs.lemmas.Bool.{cases_lt, cases_order}
use Rattle.squawk_tree.specs.Forest.{Forest, Nothing, Token, Node, Error}
use Rattle.syntax_tree.specs.Trees.{size, forest_at, inner_of, size_at, start_at, end_at, places, IsChild}
use Rattle.syntax_tree.specs.Layout.{Laid, IsTree}
use Rattle.syntax_tree.specs.Offsets.{CoversRange}
use Rattle.syntax_tree.proofs.Lies.{Lies, lies_within_node}
use Rattle.syntax_tree.proofs.Places.{place_at, reads, some_element}
use Rattle.syntax_tree.proofs.Texts.{elements_are, bytes_are, at-within}
use Rattle.syntax_tree.proofs.Apart.{token_inner, In, in_middle, places-from, apart, root_end}
use Rattle.syntax_tree.proofs.TokenOfByte.{HasByte, rises, end_is}

-- what stands in a node stands there in the whole tree
inner_in : (laid : Laid) (tree trees : Forest) (node at start all : ℕ) → Lies laid tree trees node at start all → (k : ℕ) → k < size (inner_of trees)
    → forest_at tree (at + 1 + k) ≡ forest_at (inner_of trees) k
inner_in laid tree Nothing node at start all lies k below = absurd (omega (arith, below))
inner_in laid tree (Token kind text others) node at start all lies k below = absurd (omega (arith, below))
inner_in laid tree (Node kind inner others) node at start all lies k below = (lies_within_node laid tree node at start all kind inner others lies).here k below
inner_in laid tree (Error text pos others) node at start all lies k below = absurd (omega (arith, below))

inner_at : (laid : Laid) (tree : Forest) → IsTree laid tree → (at : ℕ) → at < length laid.elements → (k : ℕ) → k < size (inner_of (forest_at tree at))
    → forest_at tree (at + 1 + k) ≡ forest_at (inner_of (forest_at tree at)) k
inner_at laid tree is at below k within =
    let place = place_at laid tree is at below in
    inner_in laid tree (forest_at tree at) place.node at place.start place.all place.lies k within

-- an element has a byte, and no child of it has the bytes between two offsets
pub record Holds (laid : Laid) (tree : Forest) (byte start end at : ℕ) : Type 0 where
  pub below : at < length laid.elements
  pub begins : start_at tree at ≤ byte
  pub has : byte < end_at tree at
  pub innermost : (child : ℕ) → IsChild tree at child → start_at tree child ≤ start → end ≤ end_at tree child → ⊥

-- the byte from which the search goes up: that of the start, or the last one
pub near : (start end len : ℕ) → 1 ≤ len → end ≤ len → (min start (len - 1) ≡ start) ⊎ (end ≤ min start (len - 1) + 1)
near start end len some within =
    elim (cases_lt start len) [
      | inl lt ↦ inl (omega arith)
      | inr ge ↦ inr (omega arith)
    ]

module _ (laid : Laid) (tree : Forest) (is : IsTree laid tree) where
  module _ (node : ℕ) (below : node < length laid.elements) (c : ℕ) (child : IsChild tree node c) where
    abbrev inner : Forest
    inner = inner_of (forest_at tree node)

    is_in : In c (places (node + 1) inner)
    is_in = subst (In c) (sym child.children) (in_middle child.before c child.behind)

    pub child_from : node < c
    child_from = omega (arith, (places-from inner (node + 1) c is_in).0)

    child_size : size_at tree c ≡ size_at inner (c - (node + 1))
    child_size =
        let b = places-from inner (node + 1) c is_in in
        let there : c ≡ node + 1 + (c - (node + 1)) = omega (arith, b.0) in
        ap (λ f. suc (size (inner_of f))) (ap (forest_at tree) there ∙ inner_at laid tree is node below (c - (node + 1)) b.1)

    -- a child ends in its node
    child_within : c + size_at tree c ≤ node + size_at tree node
    child_within =
        let b = places-from inner (node + 1) c is_in in
        omega (arith, child_size, b.0, at-within inner (c - (node + 1)) b.1)

    pub child_below : c < length laid.elements
    child_below = omega (arith, child_within, (reads laid tree is node below).within)

  before_sibling : (node : ℕ) → node < length laid.elements → (c d : ℕ) → IsChild tree node c → IsChild tree node d → c < d → end_at tree c ≤ start_at tree d
  before_sibling node below c d first second lt =
      let f = inner_of (forest_at tree node) in
      let ends = apart f (node + 1) c d (is_in node below c first) (is_in node below d second) lt in
      rises laid tree is (c + size_at tree c) d (omega (arith, ends, child_size node below c first)) (omega (arith, child_below node below d second))

  -- a token has no child
  pub holds_token : (byte start end at : ℕ) → HasByte laid tree byte at → Holds laid tree byte start end at
  holds_token byte start end at has = record {
    below = has.below;
    begins = has.starts;
    has = has.ends;
    innermost = λ child is_child _ _.
        let inside = child_within at has.below child is_child in
        absurd (omega (arith, inside, child_from at has.below child is_child, ap size (token_inner (forest_at tree at) has.is_token)));
  }

  -- up to the node in which an element stands
  pub holds_parent : (byte start end at node : ℕ) → (byte ≡ start) ⊎ (end ≤ byte + 1) → Holds laid tree byte start end at → end_at tree at < end
      → node < length laid.elements → IsChild tree node at → Holds laid tree byte start end node
  holds_parent byte start end at node near holds short below child =
      let begins = holds.begins in
      let has = holds.has in
      let inside = child_within node below at child in
      let from = child_from node below at child in
      let ends : end_at tree at ≤ end_at tree node = rises laid tree is (at + size_at tree at) (node + size_at tree node) inside ((reads laid tree is node below).within) in
      record {
        below = below;
        begins = omega (arith, rises laid tree is node at (omega (arith, from)) (omega (arith, holds.below)));
        has = omega (arith, ends, has);
        innermost = λ other is_child starts covers.
            elim (cases_order at other) [
              | inl same ↦ omega (arith, short, covers, ap (end_at tree) same)
              | inr (inl behind) ↦ elim near [
                | inl e ↦ omega (arith, before_sibling node below at other child is_child behind, starts, has, e)
                | inr e ↦ omega (arith, short, has, e)
              ]
              | inr (inr before) ↦ omega (arith, before_sibling node below other at is_child child before, covers, begins, has, short)
            ];
      }

  -- the root has all bytes
  pub root_covers : (end : ℕ) → end_at tree 0 < end → end ≤ length laid.text → ⊥
  root_covers end short within = omega (arith, short, within, root_end tree is.one, bytes_are laid tree is)

  pub covers_range : (start end at : ℕ) → 1 ≤ length laid.text → start ≤ end → end ≤ length laid.text
      → Holds laid tree (min start (length laid.text - 1)) start end at → end ≤ end_at tree at → CoversRange tree start end at
  covers_range start end at some le within holds ends =
      let begins = holds.begins in
      let bytes = bytes_are laid tree is in
      record {
        range = (le, omega arith);
        covers = record { begins = omega arith; ends = ends; innermost = holds.innermost };
        byte = λ positive. rw (← bytes) (holds.begins, holds.has);
        last = λ none. absurd (omega arith);
      }

  -- in an empty text the last element
  pub covers_nothing : (start end : ℕ) → length laid.text ≡ 0 → start ≤ end → end ≤ 0 → (1 ≤ length laid.elements) × CoversRange tree start end (length laid.elements - 1)
  covers_nothing start end none le nothing =
      let last = length laid.elements - 1 in
      let positive = some_element laid tree is in
      let bytes = bytes_are laid tree is in
      let below : last < length laid.elements = omega (arith, positive) in (
        positive,
        record {
          range = (le, omega arith);
          covers = record {
            begins = omega (arith, rises laid tree is last (length laid.elements) (omega arith) (omega arith), end_is laid tree is, none);
            ends = omega (arith, nothing);
            innermost = λ child is_child _ _. absurd (omega (arith, child_below last below child is_child, child_from last below child is_child));
          };
          byte = λ positive. absurd (omega arith);
          last = λ _. omega (arith, elements_are laid tree is, positive);
        },
      )
