-- The statements of a tree as values of JSON.
use Rattle.std.specs.Prelude.{◌≡◌, ℕ, ◌+◌, List, [], ◌∷◌, ◌++◌, codes, encode_utf8_all, length}
use Rattle.std.specs.List.{flat_map}
use Rattle.serde_json.specs.Data.{Data, Items, Members, array, item, member, no_items, no_members, number, object, string, unsigned}
use Rattle.serde_json.specs.Written.{compact_text}
use Rattle.squawk_kinds.specs.KindNames.{Names, kind_name}
use Rattle.squawk_table.specs.declared.shortcuts.str_step.OwnedStep.{OwnedStep}
use Rattle.squawk_tree.specs.Forest.{Forest, Nothing, Token, Node, Error, forest_bytes, forest_steps}

-- a member whose value is a text, or a number, before others
abbrev pub text_member : List ℕ → List ℕ → Members → Members
text_member key text others = member key (string text) others

abbrev pub number_member : List ℕ → ℕ → Members → Members
number_member key n others = member key (number (unsigned n)) others

-- the errors among trees: those that stand in none of their nodes
abbrev pub error_items : Forest → Items
error_items Nothing = no_items
error_items (Token kind text others) = error_items others
error_items (Node kind inner others) = error_items others
error_items (Error text pos others) =
    item (object (text_member (codes "message") (encode_utf8_all text) (number_member (codes "at") pos no_members))) (error_items others)

-- a token from a byte to another
abbrev pub token_data : Names → ℕ → ℕ → ℕ → Data
token_data names kind start end =
    object (text_member (codes "kind") (kind_name names kind) (number_member (codes "start") start (number_member (codes "end") end no_members)))

-- a node from a byte to another, with its children and its errors
abbrev pub node_data : Names → ℕ → ℕ → Items → ℕ → Items → Data
node_data names kind start children end errors =
    object (
    text_member (codes "kind") (kind_name names kind)
    (number_member (codes "start") start
    (member (codes "children") (array children)
    (number_member (codes "end") end (member (codes "errors") (array errors) no_members))))
    )

-- the tokens and nodes among trees, the first of which begins at a byte
abbrev pub child_items : Names → ℕ → Forest → Items
child_items names at Nothing = no_items
child_items names at (Token kind text others) =
    let end = at + length (encode_utf8_all text) in
    item (token_data names kind at end) (child_items names end others)
child_items names at (Node kind inner others) =
    let end = at + forest_bytes inner in
    item (node_data names kind at (child_items names at inner) end (error_items inner)) (child_items names end others)
child_items names at (Error text pos others) = child_items names at others

-- the nodes among trees, which are the statements where the trees are what is in the root
abbrev pub statement_data : Names → ℕ → Forest → List Data
statement_data names at Nothing = []
statement_data names at (Token kind text others) = statement_data names (at + length (encode_utf8_all text)) others
statement_data names at (Node kind inner others) =
    let end = at + forest_bytes inner in
    node_data names kind at (child_items names at inner) end (error_items inner) ∷ statement_data names end others
statement_data names at (Error text pos others) = statement_data names at others

-- the statements of the trees' roots
abbrev pub root_data : Names → ℕ → Forest → List Data
root_data names at Nothing = []
root_data names at (Token kind text others) = root_data names (at + length (encode_utf8_all text)) others
root_data names at (Node kind inner others) = statement_data names at inner ++ root_data names (at + forest_bytes inner) others
root_data names at (Error text pos others) = root_data names at others

-- the lines of values
abbrev pub data_lines : List Data → List ℕ
data_lines values = flat_map (λ value. compact_text value ++ codes "\n") values

-- Steps are those of a walk over trees, and a text has the lines of their statements.
pub record HasTreeLines (names : Names) (steps : List OwnedStep) (text : List ℕ) : Type 0 where
  pub forest : Forest
  pub walk : steps ≡ forest_steps forest
  pub lines : text ≡ data_lines (root_data names 0 forest)
