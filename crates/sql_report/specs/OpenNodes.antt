-- The nodes that are open on the way through steps. Only private functions speak of them.
use Rattle.std.specs.Prelude.{ℕ, List, [], ◌∷◌, ◌++◌, length}
use Rattle.squawk_table.specs.declared.shortcuts.str_step.OwnedStep.{OwnedStep}
use Rattle.sql_report.specs.Statements.{bytes_until_left, ending, statements_from}
use Rattle.sql_report.specs.declared.statement_list.OpenNode.{OpenNode}
use Rattle.sql_report.specs.declared.statement_list.Statement.{Statement}

-- the statement that ends where the innermost node is left, if that is one: it stands directly in the root
abbrev pub closed : List OpenNode → ℕ → List Statement
closed [] at = []
closed (root ∷ []) at = []
closed (root ∷ node ∷ []) at = record { kind = node.kind; start = node.start; end = at } ∷ []
closed (root ∷ node ∷ inner ∷ others) at = []

-- all but the innermost
abbrev pub front_nodes : List OpenNode → List OpenNode
front_nodes [] = []
front_nodes (node ∷ []) = []
front_nodes (node ∷ inner ∷ others) = node ∷ front_nodes (inner ∷ others)

-- the statement that is open behind so many bytes and before further steps, if one is
abbrev pub open_statement : List OpenNode → ℕ → List OwnedStep → List Statement
open_statement [] at steps = []
open_statement (root ∷ []) at steps = []
open_statement (root ∷ node ∷ inner) at steps = ending node.kind node.start at (bytes_until_left steps (length inner))

-- the statements that end in further steps
abbrev pub statements_left : List OpenNode → ℕ → List OwnedStep → List Statement
statements_left nodes at steps = open_statement nodes at steps ++ statements_from (length nodes) at steps
