-- Well-formed lists: how they are written, and which tree they have.
use Rattle.std.specs.Prelude.{◌≡◌, ℕ, ◌+◌, ◌≤◌, ◌==◌, max, List, [], ◌∷◌, ◌++◌, drop, codes, if◌then◌else◌}
use Rattle.std.specs.List.{flat_map}
use Rattle.squawk_kinds.specs.Kinds.{COMMA, IDENT, INT_NUMBER, L_PAREN, R_PAREN}
use Rattle.squawk_kinds.specs.TokenSets.{no_kinds}
use Rattle.squawk_table.specs.ParserInput.{Entry, kinds_in}
use Rattle.squawk_output.specs.Draft.{Draft, plain}
use Rattle.squawk_output.specs.Steps.{Step, Enter, Exit}
use Rattle.squawk_parser.specs.Eaten.{node, one}
use Rattle.squawk_parser.specs.Recorded.{Puts}
use Rattle.squawk_parser.specs.State.{State, ahead}
use Rattle.squawk_parser.specs.Words.{Words}
use Rattle.squawk_parser.specs.Whole.{IsWholeFile}

mutual
  pub data Item : Type 0 where
    name : Item
    number : Item
    list : Items → Item

  pub data Items : Type 0 where
    none : Items
    more : Item → Items → Items

-- ---- depth

-- how many lists an item has in one another, itself among them
abbrev mutual
  pub depth_of : Item → ℕ
  depth_of name = 0
  depth_of number = 0
  depth_of (list items) = 1 + deepest items

  -- and the deepest of items
  pub deepest : Items → ℕ
  deepest none = 0
  deepest (more item items) = max (depth_of item) (deepest items)

-- how deep lists may nest
abbrev pub depth_limit : ℕ
depth_limit = 500

-- ---- kinds

-- The kinds of the tokens of an item. In a list a comma stands before each item but the first.
abbrev mutual
  pub kinds_of : Item → List ℕ
  kinds_of name = IDENT ∷ []
  kinds_of number = INT_NUMBER ∷ []
  kinds_of (list items) = L_PAREN ∷ drop 1 (with_commas items) ++ R_PAREN ∷ []

  pub with_commas : Items → List ℕ
  with_commas none = []
  with_commas (more item items) = COMMA ∷ kinds_of item ++ with_commas items

-- in a file no comma stands between them
abbrev pub file_kinds : Items → List ℕ
file_kinds none = []
file_kinds (more item items) = kinds_of item ++ file_kinds items

-- no kinds of operators, and the names of the kinds that errors speak of
abbrev pub list_words : Words
list_words = record { operator_first = no_kinds; names = (COMMA, codes ",") ∷ (R_PAREN, codes ")") ∷ [] }

-- ---- the tree

abbrev pub source_file : ℕ
source_file = 710

abbrev pub list_node : ℕ
list_node = 711

-- each token is one of the tree; an opening parenthesis begins a node before it, and a closing one ends a node behind it
abbrev pub steps_at : ℕ → List Step
steps_at kind =
    if kind == L_PAREN then Enter list_node ∷ one kind ∷ []
    else if kind == R_PAREN then one kind ∷ Exit ∷ []
    else one kind ∷ []

abbrev pub steps_of : List ℕ → List Step
steps_of kinds = flat_map steps_at kinds

-- What a file leaves: one node over all tokens, and exactly the tree of a file of well-formed lists that nest no deeper than the limit.
pub record IsFile (input : List Entry) (draft : Draft) : Type 0 where
  pub whole : IsWholeFile input draft
  pub exact : (items : Items) → deepest items ≤ depth_limit → kinds_in input ≡ file_kinds items → plain draft.items ≡ node source_file (steps_of (file_kinds items))

-- ---- parts of it

-- the steps of these kinds were put, and tokens of others are ahead
pub record HasRead (kinds rest : List ℕ) (old new : State) : Type 0 where
  pub puts : Puts (steps_of kinds) old new
  pub others : kinds_in (ahead new 0) ≡ rest

-- where these kinds are ahead with others behind them, these are read
abbrev pub Reads : List ℕ → List ℕ → State → State → Type 0
Reads kinds rest old new = kinds_in (ahead old 0) ≡ kinds ++ rest → HasRead kinds rest old new
