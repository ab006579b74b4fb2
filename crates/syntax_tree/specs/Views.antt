-- What handles and iterators stand for.
use Rattle.std.specs.Prelude.{◌≡◌, ◌⊎◌, ℕ, ◌+◌, ◌<◌, ◌≤◌, ◌==◌, nat_lt, if◌then◌else◌, List, [], length, false, not, Option, MatchOption}
use Rattle.std.specs.List.{filter, slice_index_or}
use Rattle.squawk_tree.specs.Forest.{Forest}
use Rattle.syntax_tree.specs.Layout.{Laid, IsTree}
use Rattle.syntax_tree.specs.Trees.{places_between, numbers_below, StartsWith, EndsWith}
use Rattle.syntax_tree.specs.declared.element.Element.{Element}
use Rattle.syntax_tree.specs.declared.handle.SyntaxElement.{SyntaxElement}

-- a place in a tree that lies in lists
pub record At : Type 0 where
  pub laid : Laid
  pub at : ℕ

abbrev pub at_of : SyntaxElement → At
at_of element = record { laid = element.tree.now; at = element.at }

abbrev pub place_in : Laid → ℕ → At
place_in laid at = record { laid = laid; at = at }

-- a tree is that of an element
abbrev pub IsTreeOf : SyntaxElement → Forest → Type 0
IsTreeOf element tree = IsTree element.tree.now tree

-- an element is the one at a place of another's tree
abbrev pub IsElement : SyntaxElement → SyntaxElement → ℕ → Type 0
IsElement other element at = at_of element ≡ place_in other.tree.now at

-- an answer is the element at the first of a list of places, or none where the list has none; at the last of them
abbrev pub IsFirstIn : Laid → List ℕ → Option SyntaxElement → Type 0
IsFirstIn laid list answer = MatchOption answer (list ≡ []) (λ first. (first.tree.now ≡ laid) × StartsWith list first.at)

abbrev pub IsLastIn : Laid → List ℕ → Option SyntaxElement → Type 0
IsLastIn laid list answer = MatchOption answer (list ≡ []) (λ last. (last.tree.now ≡ laid) × EndsWith list last.at)

-- ---- what iterators have left; the contracts of the functions that make them say what that is in a tree

abbrev pub no_element : Element
no_element = record { kind = 0; is_token = false; start = 0; parent = 0; behind = 0; last = 0 }

abbrev pub element_in : Laid → ℕ → Element
element_in laid at = slice_index_or laid.elements at no_element

-- the places between two at which a node's children stand
abbrev pub children_between : Laid → ℕ → ℕ → ℕ → List ℕ
children_between laid node from stop = filter (λ at. (element_in laid at).parent == node) (places_between from stop)

-- a node ends behind all its places, and a child of it begins at the first of them, if one is left
pub record IsAtChild (laid : Laid) (node at behind : ℕ) : Type 0 where
  pub below : node < length laid.elements
  pub ends : (element_in laid node).behind ≡ behind
  pub within : (node < at) × (at ≤ behind) × (behind ≤ length laid.elements)
  pub child : at < behind → (element_in laid at).parent ≡ node

-- of the elements from a place down to the first one, those that another place is in
abbrev pub ancestors_from : Laid → ℕ → ℕ → List ℕ
ancestors_from laid at from =
    if from == 4294967295 then [] else filter (λ node. nat_lt at (element_in laid node).behind) (numbers_below (from + 1))

-- the place of one of them is the first that is left, or none is left
pub record IsAtAncestor (laid : Laid) (at from : ℕ) : Type 0 where
  pub below : at < length laid.elements
  pub within : (from ≡ 4294967295) ⊎ ((from ≤ at) × (at < (element_in laid from).behind))

-- of elements, those that are nodes
abbrev pub nodes_left : List At → List At
nodes_left list = filter (λ place. not (element_in place.laid place.at).is_token) list

-- of elements, those of a kind
abbrev pub kinds_left : ℕ → List At → List At
kinds_left kind list = filter (λ place. (element_in place.laid place.at).kind == kind) list
