-- What holds of parts of a grammar whose steps aren't named.
use Rattle.std.specs.Prelude.{◌≡◌, ℕ, ◌+◌, ◌*◌, ◌≤◌, true, List, [], ◌∷◌, ◌++◌}
use Rattle.squawk_kinds.specs.Kinds.{EOF}
use Rattle.squawk_output.specs.Draft.{Draft, HasNoOpenMarker, OpenMarker, Item, Mark, Node, Open, open_markers_of}
use Rattle.squawk_parser.specs.Recorded.{Begins}
use Rattle.squawk_parser.specs.State.{State, HasNode, HasNotFailed, IsFresh, Keeps, kind_at}
use Rattle.squawk_parser.specs.Whole.{IsWholeFile}

-- the items of open markers, of which the innermost is named first
abbrev pub open_markers_for : List Mark → List Item
open_markers_for [] = []
open_markers_for (m ∷ opened) = open_markers_for opened ++ OpenMarker m.id m.made ∷ []

-- Items stand at the end: first the item of a marker, if one is named, and then items with the open markers of these markers.
pub record IsLonger (first opened : List Mark) (old new : Draft) : Type 0 where
  pub made : List Item
  pub items : new.items ≡ old.items ++ (open_markers_for first ++ made)
  pub open_markers : open_markers_of made ≡ open_markers_for opened

-- Since a state some steps were added, and these markers were made that are open still.
pub record HasAdded (first opened : List Mark) (begun now : State) : Type 0 where
  pub keeps : Keeps begun now
  pub draft : HasNotFailed now → IsLonger first opened begun.draft now.draft

-- The same, where the last of the steps are a node's, which can be preceded.
pub record EndsInNode (node : Node) (first opened : List Mark) (old new : Draft) : Type 0 where
  pub front : List Item
  pub inner : List Item
  pub items : new.items ≡ old.items ++ (open_markers_for first ++ (front ++ Open node.id node.kind true ∷ inner))
  pub open_markers : open_markers_of front ≡ open_markers_for opened
  pub closed : HasNoOpenMarker inner

pub record HasAddedNode (node : Node) (first opened : List Mark) (begun now : State) : Type 0 where
  pub keeps : Keeps begun now
  pub draft : HasNotFailed now → EndsInNode node first opened begun.draft now.draft

-- And where a node is all that stands at the end.
pub record IsNodeLonger (node : Node) (old new : Draft) : Type 0 where
  pub inner : List Item
  pub items : new.items ≡ old.items ++ Open node.id node.kind true ∷ inner
  pub closed : HasNoOpenMarker inner

pub record HasAddedOnly (node : Node) (begun now : State) : Type 0 where
  pub keeps : Keeps begun now
  pub draft : HasNotFailed now → IsNodeLonger node begun.draft now.draft

-- Some steps are added: behind what was, and so they are among what was added since any earlier state.
pub record AddsSome (old new : State) : Type 0 where
  pub some : HasAdded [] [] old new
  pub behind : (first opened : List Mark) (begun : State) → HasAdded first opened begun old → HasAdded first opened begun new

-- A node of some steps is added, and can be preceded.
pub record AddsSomeNode (node : Node) (old new : State) : Type 0 where
  pub adds : AddsSome old new
  pub at_hand : HasNode new node
  pub only : HasAddedOnly node old new
  pub last : HasAddedNode node [] [] old new
  pub behind : (first opened : List Mark) (begun : State) → HasAdded first opened begun old → HasAddedNode node first opened begun new

-- A marker is made at the end.
pub record OpensNode (m : Mark) (old new : State) : Type 0 where
  pub some : HasAdded [] (m ∷ []) old new
  pub only : HasAdded (m ∷ []) [] old new
  pub behind : (first opened : List Mark) (begun : State) → HasAdded first opened begun old → HasAdded first (m ∷ opened) begun new

-- A marker is made in front of the last node.
pub record OpensBefore (node : Node) (m : Mark) (old new : State) : Type 0 where
  pub only : (begun : State) → HasAddedOnly node begun old → HasAdded (m ∷ []) [] begun new
  pub behind : (first opened : List Mark) (begun : State) → HasAddedNode node first opened begun old → HasAdded first (m ∷ opened) begun new

-- The innermost open marker becomes a node, which is the last.
pub record ClosesNode (m : Mark) (node : Node) (old new : State) : Type 0 where
  pub some : (first opened : List Mark) (begun : State) → HasAdded first (m ∷ opened) begun old → HasAdded first opened begun new
  pub last : (first opened : List Mark) (begun : State) → HasAdded first (m ∷ opened) begun old → HasAddedNode node first opened begun new
  pub only : (begun : State) → HasAdded (m ∷ []) [] begun old → HasAddedOnly node begun new

-- The marker that was made first becomes a node, which is a whole file if the parser sees the end.
pub record EndsFile (m : Mark) (old new : State) : Type 0 where
  pub closed : (begun inside : State) → Begins m begun inside → IsFresh begun → AddsSome inside old → HasNotFailed new → HasNoOpenMarker new.draft.items
  pub whole : (begun inside : State) → Begins m begun inside → IsFresh begun → AddsSome inside old → kind_at old 0 ≡ EOF → HasNotFailed new
      → IsWholeFile begun.input new.draft

-- At most `each` events are recorded for each token that is eaten, and `more` besides.
abbrev pub Spends : ℕ → ℕ → State → State → Type 0
Spends each more old new = new.draft.recorded + each * old.position ≤ old.draft.recorded + each * new.position + more
