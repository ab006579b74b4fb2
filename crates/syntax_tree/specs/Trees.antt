-- What stands at a place of a tree. The places of its nodes and tokens are counted from 0 on, a node before what is in
-- it. An error has no place.
use Rattle.std.specs.Prelude.{◌≡◌, ◌⊎◌, ℕ, zero, suc, ◌+◌, ◌-◌, ◌<◌, ◌≤◌, ◌==◌, nat_lt, if◌then◌else◌, List, [], ◌∷◌, ◌++◌, length, Bool, true, false, not, encode_utf8_all}
use Rattle.std.specs.List.{filter, range_with_len}
use Rattle.squawk_tree.specs.Forest.{Forest, Nothing, Token, Node, Error, forest_bytes}

-- how many nodes and tokens trees have
abbrev pub size : Forest → ℕ
size Nothing = 0
size (Token kind text others) = suc (size others)
size (Node kind inner others) = suc (size inner + size others)
size (Error text pos others) = size others

-- the characters of their tokens, joined
abbrev pub text_of : Forest → List ℕ
text_of Nothing = []
text_of (Token kind text others) = text ++ text_of others
text_of (Node kind inner others) = text_of inner ++ text_of others
text_of (Error text pos others) = text_of others

-- they are one node with all that is in it, and errors before and behind it
abbrev pub IsOneRoot : Forest → Type 0
IsOneRoot Nothing = ⊥
IsOneRoot (Token kind text others) = ⊥
IsOneRoot (Node kind inner others) = size others ≡ 0
IsOneRoot (Error text pos others) = IsOneRoot others

-- ---- the element at a place

-- the trees from a place on, to the last that stands beside the first of them
abbrev pub forest_at : Forest → ℕ → Forest
forest_at Nothing i = Nothing
forest_at (Token kind text others) zero = Token kind text others
forest_at (Token kind text others) (suc i) = forest_at others i
forest_at (Node kind inner others) zero = Node kind inner others
forest_at (Node kind inner others) (suc i) = if nat_lt i (size inner) then forest_at inner i else forest_at others (i - size inner)
forest_at (Error text pos others) i = forest_at others i

-- of the first of trees: its kind, whether it is a token, its characters, and what is in it
abbrev pub kind_of : Forest → ℕ
kind_of Nothing = 0
kind_of (Token kind text others) = kind
kind_of (Node kind inner others) = kind
kind_of (Error text pos others) = 0

abbrev pub is_token : Forest → Bool
is_token Nothing = false
is_token (Token kind text others) = true
is_token (Node kind inner others) = false
is_token (Error text pos others) = false

abbrev pub first_text : Forest → List ℕ
first_text Nothing = []
first_text (Token kind text others) = text
first_text (Node kind inner others) = text_of inner
first_text (Error text pos others) = []

abbrev pub inner_of : Forest → Forest
inner_of Nothing = Nothing
inner_of (Token kind text others) = Nothing
inner_of (Node kind inner others) = inner
inner_of (Error text pos others) = Nothing

-- the same of the element at a place
abbrev pub kind_at : Forest → ℕ → ℕ
kind_at tree at = kind_of (forest_at tree at)

abbrev pub is_token_at : Forest → ℕ → Bool
is_token_at tree at = is_token (forest_at tree at)

abbrev pub text_at : Forest → ℕ → List ℕ
text_at tree at = first_text (forest_at tree at)

-- how many elements it is with all that is in it
abbrev pub size_at : Forest → ℕ → ℕ
size_at tree at = suc (size (inner_of (forest_at tree at)))

-- how many bytes of tokens stand before a place
abbrev pub start_at : Forest → ℕ → ℕ
start_at Nothing i = 0
start_at (Token kind text others) zero = 0
start_at (Token kind text others) (suc i) = length (encode_utf8_all text) + start_at others i
start_at (Node kind inner others) zero = 0
start_at (Node kind inner others) (suc i) =
    if nat_lt i (size inner) then start_at inner i else forest_bytes inner + start_at others (i - size inner)
start_at (Error text pos others) i = start_at others i

-- and before the place behind all that is in the element
abbrev pub end_at : Forest → ℕ → ℕ
end_at tree at = start_at tree (at + size_at tree at)

-- ---- lists of places

-- numbers from one on, and below another
abbrev pub places_between : ℕ → ℕ → List ℕ
places_between from stop = range_with_len from (stop - from)

-- numbers below one, from the greatest on
abbrev pub numbers_below : ℕ → List ℕ
numbers_below zero = []
numbers_below (suc n) = n ∷ numbers_below n

-- of places, those of tokens, and those of nodes
abbrev pub tokens_among : Forest → List ℕ → List ℕ
tokens_among tree list = filter (is_token_at tree) list

abbrev pub nodes_among : Forest → List ℕ → List ℕ
nodes_among tree list = filter (λ at. not (is_token_at tree at)) list

-- of places, those of elements of a kind
abbrev pub of_kind : Forest → ℕ → List ℕ → List ℕ
of_kind tree kind list = filter (λ at. kind_at tree at == kind) list

-- the places of an element and of all that is in it, in the order of the text
abbrev pub descendants_of : Forest → ℕ → List ℕ
descendants_of tree at = range_with_len at (size_at tree at)

-- the places of an element and of the nodes that it is in, the innermost first
abbrev pub ancestors_of : Forest → ℕ → List ℕ
ancestors_of tree at = filter (λ node. nat_lt at (node + size_at tree node)) (numbers_below (at + 1))

-- ---- children, parents and siblings

-- the places of trees beside each other, the first of which is at a place
abbrev pub places : ℕ → Forest → List ℕ
places at Nothing = []
places at (Token kind text others) = at ∷ places (at + 1) others
places at (Node kind inner others) = at ∷ places (at + 1 + size inner) others
places at (Error text pos others) = places at others

-- the places of the children of the node at a place
abbrev pub children_of : Forest → ℕ → List ℕ
children_of tree at = places (at + 1) (inner_of (forest_at tree at))

-- a list begins with a place, or ends with it
pub record StartsWith (list : List ℕ) (at : ℕ) : Type 0 where
  pub behind : List ℕ
  pub is : list ≡ at ∷ behind

pub record EndsWith (list : List ℕ) (at : ℕ) : Type 0 where
  pub before : List ℕ
  pub is : list ≡ before ++ at ∷ []

-- a place is that of a child of a node
pub record IsChild (tree : Forest) (node at : ℕ) : Type 0 where
  pub before : List ℕ
  pub behind : List ℕ
  pub children : children_of tree node ≡ before ++ at ∷ behind

-- two places are those of children of one node, one directly behind the other
pub record AreNeighbours (tree : Forest) (at next : ℕ) : Type 0 where
  pub node : ℕ
  pub before : List ℕ
  pub behind : List ℕ
  pub children : children_of tree node ≡ before ++ at ∷ next ∷ behind

-- a place is that of the root, or of the first child of a node
pub data IsFirst (tree : Forest) (at : ℕ) : Type 0 where
  Root : at ≡ 0 → IsFirst tree at
  FirstChild : (node : ℕ) → StartsWith (children_of tree node) at → IsFirst tree at

-- a place is that of the root, or of the last child of a node
pub data IsLast (tree : Forest) (at : ℕ) : Type 0 where
  Root : at ≡ 0 → IsLast tree at
  LastChild : (node : ℕ) → EndsWith (children_of tree node) at → IsLast tree at

-- two places are those of children of one node, the second behind the first, and tokens alone stand between them
pub record TokensBetween (tree : Forest) (at next : ℕ) : Type 0 where
  pub node : ℕ
  pub before : List ℕ
  pub between : List ℕ
  pub behind : List ℕ
  pub children : children_of tree node ≡ before ++ at ∷ (between ++ next ∷ behind)
  pub tokens : nodes_among tree between ≡ []

-- a place is that of the first node behind another place in the same node; of the last node before another place
abbrev pub IsNextNode : Forest → ℕ → ℕ → Type 0
IsNextNode tree at next = TokensBetween tree at next × (is_token_at tree next ≡ false)

abbrev pub IsPreviousNode : Forest → ℕ → ℕ → Type 0
IsPreviousNode tree previous at = TokensBetween tree previous at × (is_token_at tree previous ≡ false)

-- no node stands behind a place in the same node
pub data IsLastNode (tree : Forest) (at : ℕ) : Type 0 where
  Root : at ≡ 0 → IsLastNode tree at
  LastNode : (node : ℕ) (before behind : List ℕ) → children_of tree node ≡ before ++ at ∷ behind → nodes_among tree behind ≡ [] → IsLastNode tree at

-- no node stands before it
pub data IsFirstNode (tree : Forest) (at : ℕ) : Type 0 where
  Root : at ≡ 0 → IsFirstNode tree at
  FirstNode : (node : ℕ) (before behind : List ℕ) → children_of tree node ≡ before ++ at ∷ behind → nodes_among tree before ≡ [] → IsFirstNode tree at

-- ---- the walk over an element

-- a node or a token is entered, or left
pub data Event : Type 0 where
  Entered : ℕ → Event
  Left : ℕ → Event

-- the events of a walk over trees beside each other, the first of which is at a place
abbrev pub events : ℕ → Forest → List Event
events at Nothing = []
events at (Token kind text others) = Entered at ∷ Left at ∷ events (at + 1) others
events at (Node kind inner others) = Entered at ∷ (events (at + 1) inner ++ Left at ∷ events (at + 1 + size inner) others)
events at (Error text pos others) = events at others

-- the events of a walk over the element at a place
abbrev pub events_of : Forest → ℕ → List Event
events_of tree at = Entered at ∷ (events (at + 1) (inner_of (forest_at tree at)) ++ Left at ∷ [])

-- ---- offsets

-- no token touches an offset: the text is empty, or ends before it
abbrev pub TouchesNone : Forest → ℕ → Type 0
TouchesNone tree offset = (forest_bytes tree ≡ 0) ⊎ (forest_bytes tree < offset)

-- a token alone touches an offset, which is inside of it, or an end of it and of the text
pub record TouchesOne (tree : Forest) (offset at : ℕ) : Type 0 where
  pub is_token : is_token_at tree at ≡ true
  pub begins : (start_at tree at < offset) ⊎ ((offset ≡ 0) × (start_at tree at ≡ 0))
  pub ends : (offset < end_at tree at) ⊎ ((offset ≡ forest_bytes tree) × (end_at tree at ≡ offset))

-- one token ends at an offset, and another one begins there
pub record TouchesTwo (tree : Forest) (offset left right : ℕ) : Type 0 where
  pub left_is_token : is_token_at tree left ≡ true
  pub right_is_token : is_token_at tree right ≡ true
  pub ends : end_at tree left ≡ offset
  pub begins : start_at tree right ≡ offset

-- a place is that of the innermost element which has the bytes between two offsets: no child of it has them
pub record Covers (tree : Forest) (start end at : ℕ) : Type 0 where
  pub begins : start_at tree at ≤ start
  pub ends : end ≤ end_at tree at
  pub innermost : (child : ℕ) → IsChild tree at child → start_at tree child ≤ start → end ≤ end_at tree child → ⊥
