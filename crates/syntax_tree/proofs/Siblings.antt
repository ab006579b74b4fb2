-- The parent, the children and the siblings of an element.
use Rattle.std.proofs.Common.{◌≡◌, ◌∙◌, inl, inr, ℕ, ◌+◌, ◌-◌, ◌<◌, ◌≤◌, [], ◌∷◌, ◌++◌, length, arith, ap, sym, subst, append_assoc}
use Rattle.std.proofs.lemmas.Bool.{cases_eq}
use Rattle.squawk_tree.specs.Forest.{Forest}
use Rattle.syntax_tree.specs.Trees.{size, forest_at, inner_of, size_at, places, children_of, StartsWith, EndsWith, IsChild, AreNeighbours, IsFirst, IsLast}
use Rattle.syntax_tree.specs.Layout.{Laid, IsTree}
use Rattle.syntax_tree.specs.Views.{element_in, at_of, place_in}
use Rattle.syntax_tree.specs.declared.element.Element.{Element}
use Rattle.syntax_tree.specs.declared.handle.SyntaxElement.{SyntaxElement}
use Rattle.syntax_tree.proofs.Beside.{size-beside}
use Rattle.syntax_tree.proofs.Places.{others_of, size_parts, Place, place_at, Stands, Reads, reads_here}
use Rattle.syntax_tree.proofs.Children.{places-beside, places_none, places_parts, starts_with, ends_with, last_below}

module _ (laid : Laid) (tree : Forest) (is : IsTree laid tree) (at : ℕ) (below : at < length laid.elements) where
  abbrev e : Element
  e = element_in laid at

  abbrev trees : Forest
  trees = forest_at tree at

  pub place : Place laid tree at
  place = place_at laid tree is at below

  pub here : Reads laid tree at
  here = reads_here laid tree at place

  -- children

  inner_size : e.behind ≡ at + 1 + size (inner_of trees)
  inner_size = omega (arith, here.behind)

  pub no_child : e.behind ≡ at + 1 → children_of tree at ≡ []
  no_child none = places_none (inner_of trees) (at + 1) (omega (arith, none, inner_size))

  pub first_child : (e.behind ≡ at + 1 → ⊥) → (at + 1 < length laid.elements) × StartsWith (children_of tree at) (at + 1)
  first_child some =
      let more : 1 ≤ size (inner_of trees) = omega (arith, some, inner_size) in
      (omega (arith, more, here.within), starts_with (inner_of trees) (at + 1) more)

  pub last_child : (e.behind ≡ at + 1 → ⊥) → (e.last < length laid.elements) × EndsWith (children_of tree at) e.last
  last_child some =
      let more : 1 ≤ size (inner_of trees) = omega (arith, some, inner_size) in
      let last = here.last more in
      let bound = last_below (inner_of trees) (at + 1) 0 (length laid.elements) (omega (arith, below)) (omega (arith, here.within)) in
      (omega (arith, last, bound), subst (EndsWith (children_of tree at)) (sym last) (ends_with (inner_of trees) (at + 1) 0 more))

  -- the node that it stands in

  module _ (few : length laid.elements ≤ 4294967295) where
    pub root_only : e.parent ≡ 4294967295 → at ≡ 0
    root_only none = elim (cases_eq at 0) [
      | inl first ↦ first
      | inr later ↦
          let stands = here.stands (omega (arith, later)) in
          absurd (omega (arith, stands.parent, stands.at_is, none, below, few))
    ]

  module _ (some : e.parent ≡ 4294967295 → ⊥) where
    later : 1 ≤ at
    later = elim (cases_eq at 0) [
      | inl first ↦ absurd (some (here.root first))
      | inr more ↦ omega (arith, more)
    ]

    pub stands : Stands laid tree at
    stands = here.stands later

    pub parent_before : e.parent < at
    parent_before = omega (arith, stands.parent, stands.at_is)

    -- the trees before it, and behind it

    pub siblings : children_of tree e.parent ≡ places (e.parent + 1) stands.before ++ at ∷ places (at + size_at tree at) (others_of trees)
    siblings =
        let inner = ap (λ n. inner_of (forest_at tree n)) stands.parent ∙ stands.inner in
        let begins : e.parent + 1 + size stands.before ≡ at = omega (arith, stands.parent, stands.at_is) in
        ap (places (e.parent + 1)) inner
        ∙ (places-beside stands.before trees (e.parent + 1)
        ∙ ap (λ l. places (e.parent + 1) stands.before ++ l) (ap (λ a. places a trees) begins ∙ places_parts trees at place.begins))

    pub is_child : IsChild tree e.parent at
    is_child = record { before = places (e.parent + 1) stands.before; behind = places (at + size_at tree at) (others_of trees); children = siblings }

    -- the node's end
    pub parent_ends : (element_in laid e.parent).behind ≡ at + size_at tree at + size (others_of trees)
    parent_ends =
        let node = reads_here laid tree e.parent (place_at laid tree is e.parent (omega (arith, parent_before, below))) in
        let inner = ap size (ap (λ n. inner_of (forest_at tree n)) stands.parent ∙ stands.inner) in
        omega (arith, node.behind, inner, size-beside stands.before trees, size_parts trees place.begins, stands.parent, stands.at_is)

    pub no_next : e.behind ≡ (element_in laid e.parent).behind → IsLast tree at
    no_next same =
        IsLast.LastChild e.parent (record {
          before = places (e.parent + 1) stands.before;
          is = siblings ∙ ap (λ l. places (e.parent + 1) stands.before ++ at ∷ l)
              (places_none (others_of trees) (at + size_at tree at) (omega (arith, same, parent_ends, here.behind)));
        })

    pub next : (e.behind ≡ (element_in laid e.parent).behind → ⊥) → (e.behind < length laid.elements) × AreNeighbours tree at e.behind
    next differs =
        let more : 1 ≤ size (others_of trees) = omega (arith, differs, parent_ends, here.behind) in
        let node = reads_here laid tree e.parent (place_at laid tree is e.parent (omega (arith, parent_before, below))) in
        let first = starts_with (others_of trees) (at + size_at tree at) more in (
          omega (arith, more, parent_ends, here.behind, node.within, node.behind),
          record {
            node = e.parent;
            before = places (e.parent + 1) stands.before;
            behind = first.behind;
            children = siblings ∙ ap (λ l. places (e.parent + 1) stands.before ++ at ∷ l) (first.is ∙ ap (λ a. a ∷ first.behind) (sym here.behind));
          },
        )

    pub no_previous : e.parent + 1 ≡ at → IsFirst tree at
    no_previous first =
        IsFirst.FirstChild e.parent (record {
          behind = places (at + size_at tree at) (others_of trees);
          is = siblings ∙ ap (λ l. l ++ at ∷ places (at + size_at tree at) (others_of trees))
              (places_none stands.before (e.parent + 1) (omega (arith, first, stands.parent, stands.at_is)));
        })

    pub previous : (e.parent + 1 ≡ at → ⊥)
        → ((element_in laid (at - 1)).last < length laid.elements) × AreNeighbours tree (element_in laid (at - 1)).last at
    previous more =
        let some_before : 1 ≤ size stands.before = omega (arith, more, stands.parent, stands.at_is) in
        let leaf : at - 1 ≡ stands.node + size stands.before = omega (arith, stands.at_is) in
        let last_is = ap (λ i. (element_in laid i).last) leaf ∙ stands.previous some_before in
        let last = ends_with stands.before (stands.node + 1) 0 some_before in
        let behind = at ∷ places (at + size_at tree at) (others_of trees) in (
          omega (arith, last_is, last_below stands.before (stands.node + 1) 0 at (omega (arith, later)) (omega (arith, stands.at_is)), below),
          record {
            node = e.parent;
            before = last.before;
            behind = places (at + size_at tree at) (others_of trees);
            children = siblings ∙ (ap (λ l. l ++ behind)
                (ap (λ n. places (n + 1) stands.before) stands.parent ∙ (last.is ∙ ap (λ n. last.before ++ n ∷ []) (sym last_is)))
                ∙ append_assoc last.before ((element_in laid (at - 1)).last ∷ []) behind);
          },
        )

-- a handle on the element at a place
pub placed : (h : SyntaxElement) (laid : Laid) (at : ℕ) → at_of h ≡ place_in laid at → (P : ℕ → Type 0) → P at → (h.tree.now ≡ laid) × P h.at
placed h laid at is P p = (ap (λ a. a.laid) is, subst P (sym (ap (λ a. a.at) is)) p)
