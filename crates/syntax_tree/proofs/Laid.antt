-- How trees lie in a list of elements.
use Rattle.std.proofs.Common.{◌≡◌, ◌∙◌, ◌⊎◌, inl, inr, ℕ, zero, suc, ◌+◌, ◌-◌, ◌<◌, ◌≤◌, List, length, arith, ap, sym, refl, get_or, encode_utf8_all}
use Rattle.std.proofs.lemmas.Bool.{cases_lt}
use Rattle.std.proofs.lemmas.List.{get_or_append_left, get_or-append_right}
use Rattle.squawk_tree.specs.Forest.{Forest, Nothing, Token, Node, Error, forest_bytes}
use Rattle.syntax_tree.specs.Trees.{size}
use Rattle.syntax_tree.specs.Layout.{Laid, layout, outermost}
use Rattle.syntax_tree.specs.Views.{element_in, no_element}
use Rattle.syntax_tree.specs.declared.element.Element.{Element}
use Rattle.syntax_tree.proofs.Beside.{last_of-none, outermost-none, outermost-some}
use Rattle.syntax_tree.proofs.Layouts.{length-layout}

-- the element at an index of a layout
abbrev pub laid_at : Forest → ℕ → ℕ → ℕ → ℕ → ℕ → Element
laid_at f node at start all i = get_or (layout f node at start all) i no_element

module _ (kind : ℕ) (inner others : Forest) (node at start all i : ℕ) where
  abbrev within : List Element
  within = layout inner at (at + 1) start (outermost others at all)

  abbrev behind : List Element
  behind = layout others node (at + 1 + size inner) (start + forest_bytes inner) all

  pub laid_inner : i < size inner → laid_at (Node kind inner others) node at start all (suc i) ≡ laid_at inner at (at + 1) start (outermost others at all) i
  laid_inner below = get_or_append_left within behind no_element i (omega (arith, below, length-layout inner at (at + 1) start (outermost others at all)))

  pub laid_others : size inner ≤ i
      → laid_at (Node kind inner others) node at start all (suc i) ≡ laid_at others node (at + 1 + size inner) (start + forest_bytes inner) all (i - size inner)
  laid_others above = get_or-append_right within behind (size inner) i no_element (length-layout inner at (at + 1) start (outermost others at all)) above

-- the last element ends with all of them
pub last_laid : (f : Forest) (node at start all n : ℕ) → suc n ≡ size f → (laid_at f node at start all n).last ≡ all
last_laid Nothing node at start all n is = absurd (omega (arith, is))
last_laid (Token kind text others) node at start all zero is = outermost-none others at all (omega (arith, is))
last_laid (Token kind text others) node at start all (suc n) is =
    last_laid others node (at + 1) (start + length (encode_utf8_all text)) all n (omega (arith, is))
last_laid (Node kind inner others) node at start all zero is =
    last_of-none inner (at + 1) (outermost others at all) (omega (arith, is)) ∙ outermost-none others at all (omega (arith, is))
last_laid (Node kind inner others) node at start all (suc n) is =
    elim (cases_lt n (size inner)) [
      | inl lt ↦
          ap (λ e. e.last) (laid_inner kind inner others node at start all n lt)
          ∙ (last_laid inner at (at + 1) start (outermost others at all) n (omega (arith, is, lt)) ∙ outermost-none others at all (omega (arith, is, lt)))
      | inr ge ↦
          ap (λ e. e.last) (laid_others kind inner others node at start all n ge)
          ∙ last_laid others node (at + 1 + size inner) (start + forest_bytes inner) all (n - size inner) (omega (arith, is, ge))
    ]
last_laid (Error text pos others) node at start all n is = last_laid others node at start all n is

-- the last element of a node before others ends with the node
pub node_ends : (kind : ℕ) (inner others : Forest) (node at start all : ℕ) → 1 ≤ size others → (n : ℕ) → n ≡ size inner
    → (laid_at (Node kind inner others) node at start all n).last ≡ at
node_ends kind inner others node at start all some zero is =
    last_of-none inner (at + 1) (outermost others at all) (sym is) ∙ outermost-some others at all some
node_ends kind inner others node at start all some (suc n) is =
    ap (λ e. e.last) (laid_inner kind inner others node at start all n (omega (arith, is)))
    ∙ (last_laid inner at (at + 1) start (outermost others at all) n is ∙ outermost-some others at all some)

parent_laid : (f : Forest) (node at start all i : ℕ) → i < size f
    → ((laid_at f node at start all i).parent ≡ node) ⊎ (at ≤ (laid_at f node at start all i).parent)
parent_laid Nothing node at start all i below = absurd (omega (arith, below))
parent_laid (Token kind text others) node at start all zero below = inl refl
parent_laid (Token kind text others) node at start all (suc i) below =
    elim (parent_laid others node (at + 1) (start + length (encode_utf8_all text)) all i (omega (arith, below))) [
      | inl is ↦ inl is
      | inr above ↦ inr (omega (arith, above))
    ]
parent_laid (Node kind inner others) node at start all zero below = inl refl
parent_laid (Node kind inner others) node at start all (suc i) below =
    elim (cases_lt i (size inner)) [
      | inl lt ↦
          let same = ap (λ e. e.parent) (laid_inner kind inner others node at start all i lt) in
          elim (parent_laid inner at (at + 1) start (outermost others at all) i lt) [
            | inl is ↦ inr (omega (arith, same, is))
            | inr above ↦ inr (omega (arith, same, above))
          ]
      | inr ge ↦
          let same = ap (λ e. e.parent) (laid_others kind inner others node at start all i ge) in
          elim (parent_laid others node (at + 1 + size inner) (start + forest_bytes inner) all (i - size inner) (omega (arith, below, ge))) [
            | inl is ↦ inl (same ∙ is)
            | inr above ↦ inr (omega (arith, same, above))
          ]
    ]
parent_laid (Error text pos others) node at start all i below = parent_laid others node at start all i below

-- trees in a node are laid at a place
abbrev pub AreLaid : Laid → Forest → ℕ → ℕ → ℕ → ℕ → Type 0
AreLaid laid f node at start all = (i : ℕ) → i < size f → element_in laid (at + i) ≡ laid_at f node at start all i

pub next_is : (at i : ℕ) → at + 1 + i ≡ at + suc i
next_is at i = omega arith

pub behind_is : (at n i : ℕ) → at + 1 + n + i ≡ at + suc (n + i)
behind_is at n i = omega arith

pub behind_inner : (n i : ℕ) → n + i - n ≡ i
behind_inner n i = omega arith

module _ (laid : Laid) (node at start all : ℕ) where
  pub laid_behind_token : (kind : ℕ) (text : List ℕ) (others : Forest) → AreLaid laid (Token kind text others) node at start all
      → AreLaid laid others node (at + 1) (start + length (encode_utf8_all text)) all
  laid_behind_token kind text others laid_are i below = ap (element_in laid) (next_is at i) ∙ laid_are (suc i) (omega (arith, below))

  module _ (kind : ℕ) (inner others : Forest) (laid_are : AreLaid laid (Node kind inner others) node at start all) where
    pub laid_within_node : AreLaid laid inner at (at + 1) start (outermost others at all)
    laid_within_node i below =
        ap (element_in laid) (next_is at i) ∙ (laid_are (suc i) (omega (arith, below)) ∙ laid_inner kind inner others node at start all i below)

    pub laid_behind_node : AreLaid laid others node (at + 1 + size inner) (start + forest_bytes inner) all
    laid_behind_node i below =
        ap (element_in laid) (behind_is at (size inner) i)
        ∙ (laid_are (suc (size inner + i)) (omega (arith, below))
        ∙ (laid_others kind inner others node at start all (size inner + i) (omega arith)
        ∙ ap (laid_at others node (at + 1 + size inner) (start + forest_bytes inner) all) (behind_inner (size inner) i)))

  -- each of them stands in the node, or in one of them
  pub parents_are : (f : Forest) → AreLaid laid f node at start all → (i : ℕ) → at ≤ i → i < at + size f
      → ((element_in laid i).parent ≡ node) ⊎ (at ≤ (element_in laid i).parent)
  parents_are f laid_are i above below =
      let place_is : at + (i - at) ≡ i = omega (arith, above) in
      let same = ap (λ i. (element_in laid i).parent) place_is in
      let read = ap (λ e. e.parent) (laid_are (i - at) (omega (arith, above, below))) in
      elim (parent_laid f node at start all (i - at) (omega (arith, above, below))) [
        | inl is ↦ inl (omega (arith, same, read, is))
        | inr more ↦ inr (omega (arith, same, read, more))
      ]
