-- Loops over the siblings of an element.
use Rattle.std.proofs.Common.{◌≡◌, ◌∙◌, ℕ, ◌-◌, ◌<◌, List, [], ◌∷◌, length, map, Option, Some, None, MatchOption, arith, ap, sym, refl, subst, true, false, Bool}
use Rattle.squawk_tree.specs.Forest.{Forest}
use Rattle.syntax_tree.specs.Trees.{is_token_at, children_of, nodes_among, StartsWith, EndsWith, AreNeighbours, TokensBetween, IsFirst, IsLast, IsNextNode, IsLastNode, IsPreviousNode, IsFirstNode}
use Rattle.syntax_tree.specs.Layout.{Laid, IsTree, HoldsTree}
use Rattle.syntax_tree.specs.Views.{At, at_of, place_in, element_in, IsTreeOf}
use Rattle.syntax_tree.specs.declared.element.Element.{Element}
use Rattle.syntax_tree.specs.declared.handle.SyntaxElement.{SyntaxElement}
use Rattle.syntax_tree.proofs.Places.{reads}
use Rattle.syntax_tree.proofs.Unique.{neighbours_ascend}
use Rattle.syntax_tree.proofs.NextNode.{before_next, last_node, before_previous, first_node, no_child_node, child_node_before}

-- an element is behind another one, or before it, with tokens alone between them
abbrev pub GoesOn : SyntaxElement → SyntaxElement → Type 0
GoesOn self next = (tree : Forest) → IsTreeOf self tree → (next.tree.now ≡ self.tree.now) × TokensBetween tree self.at next.at

abbrev pub GoesBack : SyntaxElement → SyntaxElement → Type 0
GoesBack self previous = (tree : Forest) → IsTreeOf self tree → (previous.tree.now ≡ self.tree.now) × TokensBetween tree previous.at self.at

-- what the calls for the sibling of an element ensure
abbrev pub IsNext : SyntaxElement → SyntaxElement → Type 0
IsNext h next = (tree : Forest) → IsTreeOf h tree → (next.tree.now ≡ h.tree.now) × AreNeighbours tree h.at next.at

abbrev pub IsPrevious : SyntaxElement → SyntaxElement → Type 0
IsPrevious h previous = (tree : Forest) → IsTreeOf h tree → (previous.tree.now ≡ h.tree.now) × AreNeighbours tree previous.at h.at

-- whether an element that was read is a token
told : (h : SyntaxElement) (e : Element) (b : Bool) → e ≡ element_in h.tree.now h.at → e.is_token ≡ b
    → (tree : Forest) → IsTreeOf h tree → is_token_at tree h.at ≡ b
told h e b read is_b tree is = sym (reads h.tree.now tree is h.at h.within).is_token ∙ (ap (λ e. e.is_token) (sym read) ∙ is_b)

module _ (self at : SyntaxElement) (e : Element) (read : e ≡ element_in at.tree.now at.at) where
  its : (tree : Forest) → IsTreeOf self tree → at.tree.now ≡ self.tree.now → IsTreeOf at tree
  its tree is same = subst (λ laid. IsTree laid tree) (sym same) is

  pub done_next : e.is_token ≡ false → GoesOn self at → (tree : Forest) → IsTreeOf self tree → (at.tree.now ≡ self.tree.now) × IsNextNode tree self.at at.at
  done_next node on tree is =
      let o = on tree is in
      (o.0, (o.1, told at e false read node tree (its tree is o.0)))

  pub done_previous : e.is_token ≡ false → GoesBack self at → (tree : Forest) → IsTreeOf self tree
      → (at.tree.now ≡ self.tree.now) × IsPreviousNode tree at.at self.at
  done_previous node on tree is =
      let o = on tree is in
      (o.0, (o.1, told at e false read node tree (its tree is o.0)))

  module _ (token : e.is_token ≡ true) where
    pub step_next : (next : SyntaxElement) → IsNext at next → GoesOn self at → GoesOn self next
    step_next next are on tree is =
        let o = on tree is in
        let is' = its tree is o.0 in
        let n = are tree is' in
        (n.0 ∙ o.0, before_next self.tree.now tree is self.at at.at o.1 (told at e true read token tree is') next.at n.1)

    pub end_next : ((tree : Forest) → IsTreeOf at tree → IsLast tree at.at) → GoesOn self at → (tree : Forest) → IsTreeOf self tree → IsLastNode tree self.at
    end_next last on tree is =
        let o = on tree is in
        let is' = its tree is o.0 in
        last_node self.tree.now tree is self.at at.at o.1 (told at e true read token tree is') (last tree is')

    pub step_previous : (previous : SyntaxElement) → IsPrevious at previous → GoesBack self at → GoesBack self previous
    step_previous previous are on tree is =
        let o = on tree is in
        let is' = its tree is o.0 in
        let n = are tree is' in
        (n.0 ∙ o.0, before_previous self.tree.now tree is at.at self.at o.1 (told at e true read token tree is') previous.at n.1)

    pub end_previous : ((tree : Forest) → IsTreeOf at tree → IsFirst tree at.at) → GoesBack self at → (tree : Forest) → IsTreeOf self tree → IsFirstNode tree self.at
    end_previous first on tree is =
        let o = on tree is in
        let is' = its tree is o.0 in
        first_node self.tree.now tree is at.at self.at o.1 (told at e true read token tree is') (first tree is')

pub fewer_behind : (at next : SyntaxElement) → HoldsTree at.tree.now → IsNext at next → length next.tree.now.elements - next.at < length at.tree.now.elements - at.at
fewer_behind at next held are =
    let n = are held.tree held.is in
    let within = next.within in
    omega (arith, ap (λ laid. length laid.elements) n.0, neighbours_ascend held.tree at.at next.at n.1, within)

pub fewer_before : (at previous : SyntaxElement) → HoldsTree at.tree.now → IsPrevious at previous → previous.at < at.at
fewer_before at previous held are = neighbours_ascend held.tree previous.at at.at (are held.tree held.is).1

-- ---- the first and the last node in a node

module _ (self last : SyntaxElement) (tree : Forest) (is : IsTreeOf self tree) (same : last.tree.now ≡ self.tree.now)
    (ends : EndsWith (children_of tree self.at) last.at) (token : is_token_at tree last.at ≡ true) where
  pub last_before : (r : Option SyntaxElement) → MatchOption r (IsFirstNode tree last.at) (λ p. (p.tree.now ≡ last.tree.now) × IsPreviousNode tree p.at last.at)
      → MatchOption r (nodes_among tree (children_of tree self.at) ≡ [])
      (λ p. (p.tree.now ≡ self.tree.now) × EndsWith (nodes_among tree (children_of tree self.at)) p.at)
  last_before None first = no_child_node self.tree.now tree is self.at last.at ends token first
  last_before (Some p) previous = (previous.0 ∙ same, child_node_before self.tree.now tree is self.at last.at ends token p.at previous.1)

pub first_given : (laid : Laid) (list : List ℕ) (left rest : List At) → left ≡ map (place_in laid) list → (r : Option SyntaxElement)
    → MatchOption r ((left ≡ []) × (rest ≡ [])) (λ x. left ≡ at_of x ∷ rest) → MatchOption r (list ≡ []) (λ x. (x.tree.now ≡ laid) × StartsWith list x.at)
first_given laid [] left rest is None gives = refl
first_given laid (at ∷ list) left rest is None gives = let none : left ≡ [] = gives.0 in cc
first_given laid [] left rest is (Some x) gives = let none : [] ≡ at_of x ∷ rest = sym is ∙ gives in cc
first_given laid (at ∷ list) left rest is (Some x) gives =
    let all : place_in laid at ∷ map (place_in laid) list ≡ at_of x ∷ rest = sym is ∙ gives in
    let first : at_of x ≡ place_in laid at = cc in
    (ap (λ a. a.laid) first, record { behind = list; is = ap (λ a. a ∷ list) (sym (ap (λ a. a.at) first)) })
