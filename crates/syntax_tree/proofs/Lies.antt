-- Where trees lie: the elements, the places and the bytes of trees that are part of a tree.
use Rattle.std.proofs.Common.{◌≡◌, ◌∙◌, ◌⊎◌, inl, inr, ℕ, suc, ◌+◌, ◌<◌, ◌≤◌, List, length, arith, ap, sym, refl, add-zero, encode_utf8_all}
use Rattle.squawk_tree.specs.Forest.{Forest, Nothing, Token, Node, Error, forest_bytes}
use Rattle.syntax_tree.specs.Trees.{size, forest_at, inner_of, start_at, IsOneRoot}
use Rattle.syntax_tree.specs.Layout.{Laid, last_of, outermost}
use Rattle.syntax_tree.specs.Views.{element_in}
use Rattle.syntax_tree.proofs.Beside.{beside, size-beside, beside_assoc, last_of-beside, outermost-some}
use Rattle.syntax_tree.proofs.Laid.{AreLaid, laid_behind_token, laid_within_node, laid_behind_node, node_ends, next_is, behind_is, behind_inner}
use Rattle.syntax_tree.proofs.Texts.{at-inner, at-others, start-within, start-others}

-- Trees are the last of those in a node. Before them stands the node, or a leaf that ends with the last of the trees before them.
pub record Inside (laid : Laid) (tree trees : Forest) (node at : ℕ) : Type 0 where
  pub before : Forest
  pub inner : inner_of (forest_at tree node) ≡ beside before trees
  pub at_is : at ≡ node + 1 + size before
  pub previous : 1 ≤ size before → (element_in laid (node + size before)).last ≡ last_of before (node + 1) 0

-- they are the last in a node, or have the root
abbrev pub StandIn : Laid → Forest → Forest → ℕ → ℕ → Type 0
StandIn laid tree trees node at = ((node ≡ 4294967295) × (at ≡ 0) × IsOneRoot trees) ⊎ Inside laid tree trees node at

-- trees of a tree lie at a place, from a byte on
pub record Lies (laid : Laid) (tree trees : Forest) (node at start all : ℕ) : Type 0 where
  pub elements : AreLaid laid trees node at start all
  pub here : (i : ℕ) → i < size trees → forest_at tree (at + i) ≡ forest_at trees i
  pub starts : (i : ℕ) → i < size trees → start_at tree (at + i) ≡ start + start_at trees i
  pub within : at + size trees ≤ length laid.elements
  pub stand : StandIn laid tree trees node at

-- trees behind others of them
inside_behind : (laid : Laid) (tree first others : Forest) (node at at' n : ℕ) → suc n ≡ size first → at' ≡ at + suc n
    → ((none : ℕ) → last_of first at none ≡ at) → (element_in laid (at + n)).last ≡ at
    → Inside laid tree (beside first others) node at → Inside laid tree others node at'
inside_behind laid tree first others node at at' n size_is at_is only last inside =
    let len = size-beside inside.before first in
    let leaf : node + size (beside inside.before first) ≡ at + n = omega (arith, len, size_is, inside.at_is) in
    let begins : node + 1 + size inside.before ≡ at = sym inside.at_is in
    record {
      before = beside inside.before first;
      inner = inside.inner ∙ sym (beside_assoc inside.before first others);
      at_is = omega (arith, at_is, inside.at_is, len, size_is);
      previous = λ some.
          ap (λ i. (element_in laid i).last) leaf
          ∙ (last ∙ sym (last_of-beside inside.before first (node + 1) 0
          ∙ (ap (λ a. last_of first a (last_of inside.before (node + 1) 0)) begins ∙ only (last_of inside.before (node + 1) 0))));
    }

module _ (laid : Laid) (tree : Forest) (node at start all : ℕ) where
  pub lies_behind_error : (text : List ℕ) (pos : ℕ) (others : Forest) → Lies laid tree (Error text pos others) node at start all → Lies laid tree others node at start all
  lies_behind_error text pos others lies = record {
    elements = lies.elements;
    here = lies.here;
    starts = lies.starts;
    within = lies.within;
    stand = elim lies.stand [
      | inl root ↦ inl root
      | inr inside ↦ inr (record {
        before = beside inside.before (Error text pos Nothing);
        inner = inside.inner ∙ sym (beside_assoc inside.before (Error text pos Nothing) others);
        at_is = omega (arith, inside.at_is, size-beside inside.before (Error text pos Nothing));
        previous = λ some.
            let len : size (beside inside.before (Error text pos Nothing)) ≡ size inside.before = omega (arith, size-beside inside.before (Error text pos Nothing)) in
            ap (λ n. (element_in laid (node + n)).last) len
            ∙ (inside.previous (omega (arith, some, len)) ∙ sym (last_of-beside inside.before (Error text pos Nothing) (node + 1) 0));
      })
    ];
  }

  module _ (kind : ℕ) (text : List ℕ) (others : Forest) (some : 1 ≤ size others) (lies : Lies laid tree (Token kind text others) node at start all) where
    pub lies_behind_token : Lies laid tree others node (at + 1) (start + length (encode_utf8_all text)) all
    lies_behind_token = record {
      elements = laid_behind_token laid node at start all kind text others lies.elements;
      here = λ i below. ap (forest_at tree) (next_is at i) ∙ lies.here (suc i) (omega (arith, below));
      starts = λ i below. omega (arith, ap (start_at tree) (next_is at i), lies.starts (suc i) (omega (arith, below)));
      within = omega (arith, lies.within);
      stand = elim lies.stand [
        | inl root ↦ absurd root.2
        | inr inside ↦
            let last = ap (λ e. e.last) (lies.elements 0 (omega arith)) ∙ outermost-some others at all some in
            inr (inside_behind laid tree (Token kind text Nothing) others node at (at + 1) 0 refl refl (λ none. refl) last inside)
      ];
    }

  module _ (kind : ℕ) (inner others : Forest) (lies : Lies laid tree (Node kind inner others) node at start all) where
    pub lies_within_node : Lies laid tree inner at (at + 1) start (outermost others at all)
    lies_within_node = record {
      elements = laid_within_node laid node at start all kind inner others lies.elements;
      here = λ i below. ap (forest_at tree) (next_is at i) ∙ (lies.here (suc i) (omega (arith, below)) ∙ at-inner kind inner others i below);
      starts = λ i below.
          omega (arith, ap (start_at tree) (next_is at i), lies.starts (suc i) (omega (arith, below)), start-within kind inner others i (omega (arith, below)));
      within = omega (arith, lies.within);
      stand = inr (record {
        before = Nothing;
        inner = ap inner_of (ap (forest_at tree) (sym (add-zero at)) ∙ lies.here 0 (omega arith));
        at_is = sym (add-zero (at + 1));
        previous = λ some. absurd (omega (arith, some));
      });
    }

    pub lies_behind_node : 1 ≤ size others → Lies laid tree others node (at + 1 + size inner) (start + forest_bytes inner) all
    lies_behind_node some = record {
      elements = laid_behind_node laid node at start all kind inner others lies.elements;
      here = λ i below.
          ap (forest_at tree) (behind_is at (size inner) i)
          ∙ (lies.here (suc (size inner + i)) (omega (arith, below))
          ∙ (at-others kind inner others (size inner + i) (omega arith) ∙ ap (forest_at others) (behind_inner (size inner) i)));
      starts = λ i below.
          omega (
            arith,
            ap (start_at tree) (behind_is at (size inner) i),
            lies.starts (suc (size inner + i)) (omega (arith, below)),
            start-others kind inner others (size inner + i) (omega arith),
            ap (start_at others) (behind_inner (size inner) i),
          );
      within = omega (arith, lies.within);
      stand = elim lies.stand [
        | inl root ↦ absurd (omega (arith, some, root.2))
        | inr inside ↦
            let begins : at + 1 + size inner ≡ at + suc (size inner) = omega arith in
            let last = ap (λ e. e.last) (lies.elements (size inner) (omega arith)) ∙ node_ends kind inner others node at start all some (size inner) refl in
            inr (inside_behind laid tree (Node kind inner Nothing) others node at (at + 1 + size inner) (size inner) (omega arith) begins (λ none. refl) last inside)
      ];
    }
