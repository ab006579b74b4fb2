-- How a tree lies in lists.
use Rattle.std.specs.Prelude.{◌≡◌, ℕ, ◌+◌, ◌≤◌, List, [], ◌∷◌, ◌++◌, length, true, false, encode_utf8_all, IsUtf8}
use Rattle.squawk_tokens.specs.LexicalErrors.{LexicalError}
use Rattle.squawk_tree.specs.Forest.{Forest, Nothing, Token, Node, Error, forest_bytes, forest_steps}
use Rattle.syntax_tree.specs.Trees.{size, text_of, IsOneRoot}
use Rattle.syntax_tree.specs.declared.element.Element.{Element}
use Rattle.syntax_tree.specs.declared.tree.TreeError.{TreeError}

-- the bytes of a text, elements and errors, and the lexical errors of the text that was parsed
pub record Laid : Type 0 where
  pub text : List ℕ
  pub elements : List Element
  pub errors : List TreeError
  pub lexical : List LexicalError

-- Where trees beside each other begin at a place, the place of the last of them; where there is none, another number.
abbrev pub last_of : Forest → ℕ → ℕ → ℕ
last_of Nothing at none = none
last_of (Token kind text others) at none = last_of others (at + 1) at
last_of (Node kind inner others) at none = last_of others (at + 1 + size inner) at
last_of (Error text pos others) at none = last_of others at none

-- The outermost element that ends with a tree at a place: it itself where others stand behind it, else that of all of them.
abbrev pub outermost : Forest → ℕ → ℕ → ℕ
outermost Nothing at all = all
outermost (Token kind text others) at all = at
outermost (Node kind inner others) at all = at
outermost (Error text pos others) at all = outermost others at all

abbrev pub token_element : ℕ → ℕ → ℕ → ℕ → ℕ → Element
token_element kind parent at start last =
    record { kind = kind; is_token = true; start = start; parent = parent; behind = at + 1; last = last }

abbrev pub node_element : ℕ → ℕ → ℕ → ℕ → ℕ → ℕ → Element
node_element kind count parent at start last =
    record { kind = kind; is_token = false; start = start; parent = parent; behind = at + 1 + count; last = last }

-- The elements of trees in a node, from a place and a byte on. `all` is the outermost element that ends with them.
abbrev pub layout : Forest → ℕ → ℕ → ℕ → ℕ → List Element
layout Nothing parent at start all = []
layout (Token kind text others) parent at start all =
    token_element kind parent at start (outermost others at all)
    ∷ layout others parent (at + 1) (start + length (encode_utf8_all text)) all
layout (Node kind inner others) parent at start all =
    node_element kind (size inner) parent at start (last_of inner (at + 1) (outermost others at all))
    ∷ (layout inner at (at + 1) start (outermost others at all)
    ++ layout others parent (at + 1 + size inner) (start + forest_bytes inner) all)
layout (Error text pos others) parent at start all = layout others parent at start all

-- their errors, from a place and a number of steps on
abbrev pub errors_of : Forest → ℕ → ℕ → ℕ → List TreeError
errors_of Nothing node at step = []
errors_of (Token kind text others) node at step = errors_of others node (at + 1) (step + 1)
errors_of (Node kind inner others) node at step =
    errors_of inner at (at + 1) (step + 1)
    ++ errors_of others node (at + 1 + size inner) (step + 2 + length (forest_steps inner))
errors_of (Error text pos others) node at step =
    record { msg = text; pos = pos; node = node; next = at; step = step } ∷ errors_of others node at (step + 1)

-- the text of each token is text, and not empty
abbrev pub AreTexts : Forest → Type 0
AreTexts Nothing = Unit {0}
AreTexts (Token kind text others) = IsUtf8 (encode_utf8_all text) × (1 ≤ length text) × AreTexts others
AreTexts (Node kind inner others) = AreTexts inner × AreTexts others
AreTexts (Error text pos others) = AreTexts others

-- a tree lies in lists
pub record IsTree (laid : Laid) (tree : Forest) : Type 0 where
  pub elements : laid.elements ≡ layout tree 4294967295 0 0 0
  pub errors : laid.errors ≡ errors_of tree 4294967295 0 0
  pub text : laid.text ≡ encode_utf8_all (text_of tree)
  pub texts : AreTexts tree
  pub one : IsOneRoot tree

-- some tree lies in them, and it is no larger than numbers of 32 bits tell
pub record HoldsTree (laid : Laid) : Type 0 where
  pub tree : Forest
  pub is : IsTree laid tree
  pub few : length laid.elements ≤ 4294967295
  pub few_errors : length laid.errors ≤ 4294967295
  pub short : length laid.text ≤ 4294967295
