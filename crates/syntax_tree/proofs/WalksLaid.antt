-- What a walk reads at a place.
use Rattle.std.proofs.Common.{◌≡◌, ◌∙◌, ℕ, ◌+◌, ◌<◌, ◌≤◌, List, length, arith, ap, sym, refl, add-zero, nat_lt, eqb, true, false, slice_range, chars}
use Rattle.std.proofs.lemmas.Bool.{cond_both, cond-true, lt-ltb, ltb-true, ltb-false, eq-eqb, ne_eqb}
use Rattle.squawk_tree.specs.Forest.{Forest, Nothing, Token, Node, Error}
use Rattle.syntax_tree.specs.Trees.{size, forest_at, inner_of, first_text, text_at, size_at, start_at}
use Rattle.syntax_tree.specs.Layout.{Laid, IsTree, last_of, outermost, token_element, node_element}
use Rattle.syntax_tree.specs.Views.{element_in}
use Rattle.syntax_tree.specs.Walks.{ends_before, start_in}
use Rattle.syntax_tree.proofs.Texts.{start-all, bytes_are, elements_are, slices}
use Rattle.syntax_tree.proofs.Lies.{Lies, lies_within_node}
use Rattle.syntax_tree.proofs.Places.{Begins, place_at, reads}

-- ---- the first of trees

module _ (laid : Laid) (tree : Forest) (node at start all : ℕ) where
  module _ (kind : ℕ) (text : List ℕ) (others : Forest) (lies : Lies laid tree (Token kind text others) node at start all) where
    pub token_here : element_in laid at ≡ token_element kind node at start (outermost others at all)
    token_here = ap (element_in laid) (sym (add-zero at)) ∙ lies.elements 0 (omega arith)

    pub text_here : text_at tree at ≡ text
    text_here = ap (text_at tree) (sym (add-zero at)) ∙ ap first_text (lies.here 0 (omega arith))

  pub node_here : (kind : ℕ) (inner others : Forest) → Lies laid tree (Node kind inner others) node at start all
      → element_in laid at ≡ node_element kind (size inner) node at start (last_of inner (at + 1) (outermost others at all))
  node_here kind inner others lies = ap (element_in laid) (sym (add-zero at)) ∙ lies.elements 0 (omega arith)

-- ---- what is in the element at a place

pub record Holds (laid : Laid) (tree inner : Forest) (at : ℕ) : Type 0 where
  pub start : ℕ
  pub all : ℕ
  pub lies : 1 ≤ size inner → Lies laid tree inner at (at + 1) start all

module _ (laid : Laid) (tree : Forest) where
  holds_first : (trees : Forest) (node at start all : ℕ) → Begins trees → Lies laid tree trees node at start all → Holds laid tree (inner_of trees) at
  holds_first Nothing node at start all begins lies = absurd begins
  holds_first (Token kind text others) node at start all begins lies = record { start = start; all = all; lies = λ some. absurd (omega (arith, some)) }
  holds_first (Node kind inner others) node at start all begins lies =
      record { start = start; all = outermost others at all; lies = λ _. lies_within_node laid tree node at start all kind inner others lies }
  holds_first (Error text pos others) node at start all begins lies = absurd begins

  module _ (is : IsTree laid tree) where
    pub holds : (at : ℕ) → at < length laid.elements → Holds laid tree (inner_of (forest_at tree at)) at
    holds at below =
        let place = place_at laid tree is at below in
        holds_first (forest_at tree at) place.node at place.start place.all place.begins place.lies

    -- ---- the text of an element

    start_in-is : (at : ℕ) → at ≤ length laid.elements → start_in laid at ≡ start_at tree at
    start_in-is at within =
        cond_both (nat_lt at (length laid.elements)) (element_in laid at).start (length laid.text) (λ n. n ≡ start_at tree at)
        (λ e. (reads laid tree is at (ltb-true at (length laid.elements) e)).start)
        (λ e.
        let all : size tree ≡ at = omega (arith, elements_are laid tree is, within, ltb-false at (length laid.elements) e) in
        bytes_are laid tree is ∙ (sym (start-all tree) ∙ ap (start_at tree) all))

    pub text_is : (at : ℕ) → at < length laid.elements
        → chars (slice_range laid.text (element_in laid at).start (start_in laid (element_in laid at).behind)) ≡ text_at tree at
    text_is at below =
        let read = reads laid tree is at below in
        let slice = slices laid tree is at below in
        let end : start_in laid (element_in laid at).behind ≡ start_at tree (at + size_at tree at) =
        ap (start_in laid) read.behind ∙ start_in-is (at + size_at tree at) read.within in
        ap (λ s. chars (slice_range laid.text s (start_in laid (element_in laid at).behind))) read.start
        ∙ (ap (λ n. chars (slice_range laid.text (start_at tree at) n)) end ∙ (ap chars slice.is ∙ slice.chars_are))

-- ---- whether an element ends before a place

module _ (laid : Laid) (node at : ℕ) where
  pub ends_here : node < length laid.elements → (element_in laid node).behind ≡ at → ends_before laid node at ≡ true
  ends_here below is =
      cond-true (nat_lt node (length laid.elements)) (eqb (element_in laid node).behind at) false (lt-ltb node (length laid.elements) below)
      ∙ eq-eqb (element_in laid node).behind at is

  pub ends_later : (node < length laid.elements → at < (element_in laid node).behind) → ends_before laid node at ≡ false
  ends_later later =
      cond_both (nat_lt node (length laid.elements)) (eqb (element_in laid node).behind at) false (λ b. b ≡ false)
      (λ e.
      let beyond = later (ltb-true node (length laid.elements) e) in
      ne_eqb (element_in laid node).behind at (λ same. omega (arith, beyond, same)))
      (λ e. refl)
