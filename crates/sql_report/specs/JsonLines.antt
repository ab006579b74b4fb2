-- The statements of a tree as lines of JSON.
use Rattle.std.specs.Prelude.{ℕ, zero, suc, ◌+◌, Bool, true, false, List, [], ◌∷◌, ◌++◌, codes, drop, length, if◌then◌else◌}
use Rattle.std.specs.Fmt.{decimal}
use Rattle.squawk_json.specs.JsonStrings.{json_of, json_string}
use Rattle.squawk_kinds.specs.KindNames.{Names, kind_name}
use Rattle.squawk_table.specs.declared.shortcuts.str_step.OwnedStep.{OwnedStep}
use Rattle.squawk_table.specs.declared.shortcuts.str_step.OwnedStep.TheVariants.{Token, Enter, Exit, Error}
use Rattle.squawk_tree.specs.TreeText.{bytes_in}

-- ---- objects

-- how an object of a node or a token begins
abbrev pub begun : Names → ℕ → ℕ → List ℕ
begun names kind start = codes "{\"kind\":" ++ json_string (kind_name names kind) ++ codes ",\"start\":" ++ decimal start

-- a token
abbrev pub token_object : Names → ℕ → ℕ → ℕ → List ℕ
token_object names kind start end = begun names kind start ++ codes ",\"end\":" ++ decimal end ++ codes "}"

-- a node up to its children
abbrev pub node_opened : Names → ℕ → ℕ → List ℕ
node_opened names kind start = begun names kind start ++ codes ",\"children\":["

-- a node behind its children, with its errors, which are joined
abbrev pub node_closed : ℕ → List ℕ → List ℕ
node_closed end errors = codes "],\"end\":" ++ decimal end ++ codes ",\"errors\":[" ++ errors ++ codes "]}"

-- an error
abbrev pub error_object : List ℕ → ℕ → List ℕ
error_object text pos = codes "{\"message\":" ++ json_of text ++ codes ",\"at\":" ++ decimal pos ++ codes "}"

-- errors with a comma behind them, if there are any
abbrev pub with_comma : List ℕ → List ℕ
with_comma [] = []
with_comma (byte ∷ errors) = (byte ∷ errors) ++ codes ","

-- ---- steps

-- Where steps stand: the nodes that are open, as the errors of each so far, joined, the innermost first; whether a
-- child stands before in the innermost; and the byte.
pub record Standing : Type 0 where
  pub nodes : List (List ℕ)
  pub has_child : Bool
  pub at : ℕ

-- with an error in the innermost node
abbrev pub with_error : List (List ℕ) → List ℕ → List (List ℕ)
with_error [] error = []
with_error (errors ∷ nodes) error = (with_comma errors ++ error) ∷ nodes

-- where steps stand behind a step
abbrev pub behind : Standing → OwnedStep → Standing
behind s (Token kind text) = record { nodes = s.nodes; has_child = true; at = s.at + bytes_in (Token kind text) }
behind s (Enter kind) = record { nodes = [] ∷ s.nodes; has_child = false; at = s.at }
behind s Exit = record { nodes = drop 1 s.nodes; has_child = true; at = s.at }
behind s (Error text pos) = record { nodes = with_error s.nodes (error_object text pos); has_child = s.has_child; at = s.at }

-- what stands in a statement: inside of the root and a node of it
abbrev pub in_statement : List (List ℕ) → List ℕ → List ℕ
in_statement [] text = []
in_statement (root ∷ []) text = []
in_statement (errors ∷ node ∷ nodes) text = text

-- a comma, where a child stands before
abbrev pub comma : Bool → List ℕ
comma has_child = if has_child then codes "," else []

-- the beginning of a node: the root has none
abbrev pub opening : List (List ℕ) → Bool → List ℕ → List ℕ
opening [] has_child begins = []
opening (errors ∷ nodes) has_child begins = in_statement (errors ∷ nodes) (comma has_child) ++ begins

-- the end of a node inside of so many others: the root has none, and a statement's ends the line
abbrev pub ending_inside : ℕ → List ℕ → List ℕ
ending_inside zero ends = []
ending_inside (suc zero) ends = ends ++ codes "\n"
ending_inside (suc (suc outer)) ends = ends

-- the end of the innermost node
abbrev pub closing : List (List ℕ) → ℕ → List ℕ
closing [] at = []
closing (errors ∷ nodes) at = ending_inside (length nodes) (node_closed at errors)

-- what is written for a step
abbrev pub written : Names → Standing → OwnedStep → List ℕ
written names s (Token kind text) = in_statement s.nodes (comma s.has_child ++ token_object names kind s.at (s.at + bytes_in (Token kind text)))
written names s (Enter kind) = opening s.nodes s.has_child (node_opened names kind s.at)
written names s Exit = closing s.nodes s.at
written names s (Error text pos) = []

-- what is written for steps
abbrev pub written_from : Names → Standing → List OwnedStep → List ℕ
written_from names s [] = []
written_from names s (step ∷ steps) = written names s step ++ written_from names (behind s step) steps

-- the lines of the statements of a tree
abbrev pub json_lines : Names → List OwnedStep → List ℕ
json_lines names steps = written_from names (record { nodes = []; has_child = false; at = 0 }) steps
