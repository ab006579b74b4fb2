-- What handles of errors and iterators over errors stand for.
use Rattle.std.specs.Prelude.{ℕ, ◌<◌, ◌≤◌, ◌&&◌, nat_le, nat_lt, List, length, map, slice_range}
use Rattle.std.specs.List.{filter}
use Rattle.syntax_tree.specs.Layout.{Laid}
use Rattle.syntax_tree.specs.Walks.{InTree, in_tree, error_in}
use Rattle.syntax_tree.specs.declared.errors.SyntaxError.{SyntaxError}
use Rattle.syntax_tree.specs.declared.tree.TreeError.{TreeError}

-- an error, with the tree that it is of
abbrev pub error_of : SyntaxError → InTree TreeError
error_of e = in_tree e.tree.now (error_in e.tree.now e.at)

-- the errors between two indices
abbrev pub errors_left : Laid → ℕ → ℕ → List (InTree TreeError)
errors_left laid at stop = map (in_tree laid) (slice_range laid.errors at stop)

-- of errors, those in a node between two places
abbrev pub errors_between : ℕ → ℕ → List (InTree TreeError) → List (InTree TreeError)
errors_between at behind list = filter (λ e. nat_le at e.it.node && nat_lt e.it.node behind) list

-- of a tree's errors so many come before an element that begins behind a place: the first of them, and no other
pub record ComeBefore (laid : Laid) (place count : ℕ) : Type 0 where
  pub within : count ≤ length laid.errors
  pub before : (i : ℕ) → i < count → (error_in laid i).next ≤ place
  pub behind : (i : ℕ) → count ≤ i → i < length laid.errors → place < (error_in laid i).next
