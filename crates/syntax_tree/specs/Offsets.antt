-- Answers for an offset.
use Rattle.std.specs.Prelude.{◌≡◌, ℕ, ◌+◌, ◌-◌, ◌<◌, ◌≤◌, length, min}
use Rattle.squawk_tree.specs.Forest.{Forest, forest_bytes}
use Rattle.syntax_tree.specs.Layout.{Laid}
use Rattle.syntax_tree.specs.Trees.{Covers, TouchesNone, TouchesOne, TouchesTwo, end_at, size, start_at}
use Rattle.syntax_tree.specs.Views.{element_in}
use Rattle.syntax_tree.specs.declared.offsets.TokenAtOffset.{TokenAtOffset}
use Rattle.syntax_tree.specs.declared.offsets.TokenAtOffset.TheVariants as answer

-- an answer tells the tokens that touch an offset
abbrev pub AnswersOffset : Laid → Forest → ℕ → TokenAtOffset → Type 0
AnswersOffset laid tree offset answer.None = TouchesNone tree offset
AnswersOffset laid tree offset (answer.Single token) = (token.tree.now ≡ laid) × TouchesOne tree offset token.at
AnswersOffset laid tree offset (answer.Between left right) =
    (left.tree.now ≡ laid) × (right.tree.now ≡ laid) × TouchesTwo tree offset left.at right.at

-- The text has the bytes of a range. The element at a place is the innermost one that has them, of those that have the byte at the
-- range's start, or the last byte where the text ends there. In an empty text it is the last element.
pub record CoversRange (tree : Forest) (start end at : ℕ) : Type 0 where
  pub range : (start ≤ end) × (end ≤ forest_bytes tree)
  pub covers : Covers tree start end at
  pub byte : 0 < forest_bytes tree → (start_at tree at ≤ min start (forest_bytes tree - 1)) × (min start (forest_bytes tree - 1) < end_at tree at)
  pub last : forest_bytes tree ≡ 0 → at + 1 ≡ size tree

-- All elements before a place begin at a byte or before it; all from a place on begin behind it.
pub record BeginBy (laid : Laid) (byte place : ℕ) : Type 0 where
  pub within : place ≤ length laid.elements
  pub begin : (i : ℕ) → i < place → (element_in laid i).start ≤ byte

pub record BeginBehind (laid : Laid) (byte place : ℕ) : Type 0 where
  pub within : place ≤ length laid.elements
  pub begin : (i : ℕ) → place ≤ i → i < length laid.elements → byte < (element_in laid i).start
