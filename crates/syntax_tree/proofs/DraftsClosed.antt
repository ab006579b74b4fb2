-- A draft whose innermost open node ends: two elements change, the node and the last one.
use Rattle.std.proofs.Common.{◌≡◌, ◌∙◌, ℕ, ◌+◌, ◌-◌, ◌≤◌, List, [], ◌∷◌, ◌++◌, length, get_or, set, arith, ap, sym, append_assoc, append-nil, inl, inr, eq-zero-or-pos}
use Rattle.std.proofs.lemmas.List.{length-append, get_or_at, set_at}
use Rattle.squawk_tree.specs.Forest.{Forest, Nothing, Node}
use Rattle.syntax_tree.specs.Trees.{size}
use Rattle.syntax_tree.specs.Layout.{layout, last_of, node_element}
use Rattle.syntax_tree.specs.Drafts.{Draft, Within, draft_size, draft_bytes, draft_elements, innermost, open_element}
use Rattle.syntax_tree.specs.declared.element.Element.{Element}
use Rattle.syntax_tree.proofs.Beside.{last_of-none}
use Rattle.syntax_tree.proofs.Layouts.{length-layout, layout-none}
use Rattle.syntax_tree.proofs.DraftsGrown.{grow, HasRoom, draft_elements-grow, last_behind-node, length-draft}
use Rattle.syntax_tree.proofs.DraftsLast.{with_last, ending}

-- ---- the last element of a list, and one before it

module _ (elements before front : List Element) (opened leaf : Element) (n last : ℕ) (elements_are : elements ≡ before ++ opened ∷ (front ++ leaf ∷ []))
    (n_is : length before ≡ n) (last_is : last ≡ n + 1 + length front) where
  regrouped : (x y : Element) → before ++ x ∷ (front ++ y ∷ []) ≡ (before ++ x ∷ front) ++ y ∷ []
  regrouped x y = sym (append_assoc before (x ∷ front) (y ∷ []))

  length_is : length (before ++ opened ∷ front) ≡ last
  length_is = omega (arith, length-append before (opened ∷ front), n_is, last_is)

  last_read : (d : Element) → get_or elements last d ≡ leaf
  last_read d = ap (λ l. get_or l last d) (elements_are ∙ regrouped opened leaf) ∙ get_or_at (before ++ opened ∷ front) leaf [] d last length_is

  last_set : (y : Element) → set elements last y ≡ before ++ opened ∷ (front ++ y ∷ [])
  last_set y =
      ap (λ l. set l last y) (elements_are ∙ regrouped opened leaf)
      ∙ (set_at (before ++ opened ∷ front) leaf [] y last length_is ∙ sym (regrouped opened y))

  opened_read : (y d : Element) → get_or (set elements last y) n d ≡ opened
  opened_read y d = ap (λ l. get_or l n d) (last_set y) ∙ get_or_at before opened (front ++ y ∷ []) d n n_is

  both_set : (y z : Element) → set (set elements last y) n z ≡ before ++ z ∷ (front ++ y ∷ [])
  both_set y z = ap (λ l. set l n z) (last_set y) ∙ set_at before opened (front ++ y ∷ []) z n n_is

-- ---- the end of a node

-- the node, with the place behind it, and that of its last child
abbrev pub closed : ℕ → ℕ → Element → Element
closed behind last node = record node { behind = behind; last = last }

module _ (d : Draft) (kind : ℕ) (inner : Forest) (room : HasRoom d (Node kind inner Nothing)) where
  abbrev at : ℕ
  at = draft_size d

  abbrev start : ℕ
  start = draft_bytes d

  abbrev opened : Element
  opened = open_element kind (innermost d) at start

  abbrev whole : ℕ → Element
  whole last = node_element kind (size inner) (innermost d) at start last

  elements_closed : draft_elements (grow d (Node kind inner Nothing)) ≡ draft_elements d ++ whole (last_of inner (at + 1) at) ∷ layout inner at (at + 1) start at
  elements_closed =
      draft_elements-grow d (Node kind inner Nothing) room
      ∙ (ap (λ all. draft_elements d ++ layout (Node kind inner Nothing) (innermost d) at start all) (last_behind-node d kind inner room)
      ∙ ap (λ l. draft_elements d ++ whole (last_of inner (at + 1) at) ∷ l) (append-nil (layout inner at (at + 1) start at)))

  module _ (elements : List Element) (place count : ℕ) (elements_are : elements ≡ draft_elements (Within d kind inner)) (place_is : at ≡ place)
      (count_is : count ≡ at + 1 + size inner) (leaf node : Element) (leaf_is : leaf ≡ get_or elements (count - 1) leaf)
      (node_is : node ≡ get_or (set elements (count - 1) (with_last place leaf)) place node) where
    -- the elements with the node closed, and the node that is the innermost open one then
    pub record Closes : Type 0 where
      pub ends : set (set elements (count - 1) (with_last place leaf)) place (closed count leaf.last node) ≡ draft_elements (grow d (Node kind inner Nothing))
      pub parent : node.parent ≡ innermost d

    -- where the last element is the node itself, and where it is a leaf in it
    ends_alone : size inner ≡ 0 → Closes
    ends_alone empty =
        let at_end : length (draft_elements d) ≡ count - 1 = omega (arith, length-draft d, count_is, empty) in
        let at_place : length (draft_elements d) ≡ place = length-draft d ∙ place_is in
        let are = elements_are ∙ ap (λ l. draft_elements d ++ opened ∷ l) (layout-none inner at (at + 1) start (last_of inner (at + 1) at) empty) in
        let leaf_at = leaf_is ∙ (ap (λ l. get_or l (count - 1) leaf) are ∙ get_or_at (draft_elements d) opened [] leaf (count - 1) at_end) in
        let leaf_new : with_last place leaf ≡ opened = ap (with_last place) leaf_at ∙ ap (λ p. with_last p opened) (sym place_is) in
        let put = ap (λ l. set l (count - 1) (with_last place leaf)) are
        ∙ (set_at (draft_elements d) opened [] (with_last place leaf) (count - 1) at_end ∙ ap (λ e. draft_elements d ++ e ∷ []) leaf_new) in
        let node_at = node_is ∙ (ap (λ l. get_or l place node) put ∙ get_or_at (draft_elements d) opened [] node place at_place) in
        let node_new : closed count leaf.last node ≡ whole at =
        ap (closed count leaf.last) node_at ∙ (ap (λ c. closed c leaf.last opened) count_is ∙ ap (λ e. closed (at + 1 + size inner) e.last opened) leaf_at) in
        record {
          ends = ap (λ l. set l place (closed count leaf.last node)) put
              ∙ (set_at (draft_elements d) opened [] (closed count leaf.last node) place at_place
              ∙ (ap (λ e. draft_elements d ++ e ∷ []) node_new
              ∙ (ap (λ last. draft_elements d ++ whole last ∷ []) (sym (last_of-none inner (at + 1) at empty))
              ∙ (ap (λ l. draft_elements d ++ whole (last_of inner (at + 1) at) ∷ l) (sym (layout-none inner at (at + 1) start at empty))
              ∙ sym elements_closed))));
          parent = ap (λ e. e.parent) node_at;
        }

    ends_last : 1 ≤ size inner → Closes
    ends_last some =
        let child = last_of inner (at + 1) at in
        let e = ending inner at (at + 1) start some in
        let old = with_last child e.leaf in
        let are = elements_are ∙ ap (λ l. draft_elements d ++ opened ∷ l) (e.is child) in
        let at_place : length (draft_elements d) ≡ place = length-draft d ∙ place_is in
        let count' = ap length (e.is child) in
        let at_end : count - 1 ≡ place + 1 + length e.front =
        omega (arith, count_is, place_is, count', length-layout inner at (at + 1) start child, length-append e.front (old ∷ [])) in
        let leaf_at = leaf_is ∙ last_read elements (draft_elements d) e.front opened old place (count - 1) are at_place at_end leaf in
        let leaf_new : with_last place leaf ≡ with_last at e.leaf = ap (with_last place) leaf_at ∙ ap (λ p. with_last p e.leaf) (sym place_is) in
        let node_at = node_is ∙ opened_read elements (draft_elements d) e.front opened old place (count - 1) are at_place at_end (with_last place leaf) node in
        let node_new : closed count leaf.last node ≡ whole child =
        ap (closed count leaf.last) node_at ∙ (ap (λ c. closed c leaf.last opened) count_is ∙ ap (λ l. closed (at + 1 + size inner) l.last opened) leaf_at) in
        record {
          ends = both_set elements (draft_elements d) e.front opened old place (count - 1) are at_place at_end (with_last place leaf) (closed count leaf.last node)
              ∙ (ap (λ n. draft_elements d ++ n ∷ (e.front ++ with_last place leaf ∷ [])) node_new
              ∙ (ap (λ l. draft_elements d ++ whole child ∷ (e.front ++ l ∷ [])) leaf_new
              ∙ (ap (λ l. draft_elements d ++ whole child ∷ l) (sym (e.is at)) ∙ sym elements_closed)));
          parent = ap (λ n. n.parent) node_at;
        }

    pub closes : Closes
    closes = elim (eq-zero-or-pos (size inner)) [ inl none ↦ ends_alone none | inr some ↦ ends_last some ]
