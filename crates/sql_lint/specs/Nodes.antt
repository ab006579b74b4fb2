-- What stands directly in a node.
use Rattle.std.specs.Prelude.{ℕ, List, [], ◌∷◌, Bool, true, false, encode_utf8_all}
use Rattle.std.specs.Str.{str_eq_ignore_ascii_case}
use Rattle.squawk_tree.specs.Forest.{Forest}
use Rattle.syntax_tree.specs.Trees.{children_of, nodes_among, of_kind, text_at, tokens_among}

-- the first of a list of places meets a test
abbrev pub first_meets : (ℕ → Bool) → List ℕ → Bool
first_meets test [] = false
first_meets test (first ∷ others) = test first

-- the nodes of a kind in a node
abbrev pub nodes_in : Forest → ℕ → ℕ → List ℕ
nodes_in tree at kind = of_kind tree kind (nodes_among tree (children_of tree at))

-- it has a node of a kind, or a token of a kind
abbrev pub has_node : Forest → ℕ → ℕ → Bool
has_node tree at kind = first_meets (λ node. true) (nodes_in tree at kind)

abbrev pub has_token : Forest → ℕ → ℕ → Bool
has_token tree at kind = first_meets (λ token. true) (of_kind tree kind (tokens_among tree (children_of tree at)))

-- the first node of a kind in it has a text, but for the case of ASCII letters
abbrev pub says : Forest → ℕ → ℕ → List ℕ → Bool
says tree at kind text = first_meets (λ node. str_eq_ignore_ascii_case (encode_utf8_all (text_at tree node)) text) (nodes_in tree at kind)
