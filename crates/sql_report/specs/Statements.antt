-- The statements of a text: the nodes directly in its root.
use Rattle.std.specs.Prelude.{◌≡◌, ℕ, zero, suc, ◌+◌, ◌==◌, Option, None, Some, List, [], ◌∷◌, ◌++◌, codes, encode_utf8_all, if◌then◌else◌, length, option_map}
use Rattle.std.specs.List.{flat_map}
use Rattle.std.specs.Fmt.{decimal}
use Rattle.squawk_kinds.specs.KindNames.{Names, kind_name}
use Rattle.squawk_table.specs.Sent.{bytes_of}
use Rattle.squawk_table.specs.declared.shortcuts.str_step.OwnedStep.{OwnedStep}
use Rattle.squawk_table.specs.declared.shortcuts.str_step.OwnedStep.TheVariants.{Token, Enter, Exit, Error}
use Rattle.squawk_tree.specs.TreeText.{bytes_in, nodes_open_behind}
use Rattle.sql_report.specs.Places.{column_at, line_at}
use Rattle.sql_report.specs.declared.statement_list.Statement.{Statement}

-- how many bytes of tokens stand before the closing of a node in which so many others are open, if one closes it
abbrev pub bytes_until_left : List OwnedStep → ℕ → Option ℕ
bytes_until_left [] inner = None
bytes_until_left (Token kind text ∷ steps) inner = option_map (λ n. length (encode_utf8_all text) + n) (bytes_until_left steps inner)
bytes_until_left (Enter kind ∷ steps) inner = bytes_until_left steps (suc inner)
bytes_until_left (Exit ∷ steps) zero = Some 0
bytes_until_left (Exit ∷ steps) (suc inner) = bytes_until_left steps inner
bytes_until_left (Error text pos ∷ steps) inner = bytes_until_left steps inner

-- a statement that ends so many bytes behind a place, if it ends
abbrev pub ending : ℕ → ℕ → ℕ → Option ℕ → List Statement
ending kind start at None = []
ending kind start at (Some n) = record { kind = kind; start = start; end = at + n } ∷ []

-- the statement that a step begins inside of so many nodes, behind so many bytes and before other steps, if any
abbrev pub statement_at : ℕ → ℕ → OwnedStep → List OwnedStep → List Statement
statement_at depth at (Token kind text) behind = []
statement_at depth at (Enter kind) behind = if depth == 1 then ending kind at at (bytes_until_left behind 0) else []
statement_at depth at Exit behind = []
statement_at depth at (Error text pos) behind = []

-- the statements that steps begin inside of so many nodes, behind so many bytes
abbrev pub statements_from : ℕ → ℕ → List OwnedStep → List Statement
statements_from depth at [] = []
statements_from depth at (step ∷ steps) =
    statement_at depth at step steps ++ statements_from (nodes_open_behind depth step) (at + bytes_in step) steps

-- the statements of a tree
abbrev pub statements_of : List OwnedStep → List Statement
statements_of steps = statements_from 0 0 steps

-- ---- of a script, part by part

-- the statement of a script that one of a part is, where the part begins at this byte
abbrev pub moved_statement : ℕ → Statement → Statement
moved_statement start s = record s { start = start + s.start; end = start + s.end }

-- Steps in a root that is still open: these of their statements are ended, and no other is begun.
abbrev pub HasStatements : List OwnedStep → List Statement → Type 0
HasStatements done ended = (rest : List OwnedStep) → statements_of (done ++ rest) ≡ ended ++ statements_from 1 (bytes_of done) rest

-- ---- lines

-- the line of a statement: its bytes, the line and the column of the first, and its kind
abbrev pub statement_line : ℕ → ℕ → Names → Statement → List ℕ
statement_line line column names s =
    decimal s.start ++ codes ".." ++ decimal s.end ++ codes " " ++ decimal line ++ codes ":" ++ decimal column ++ codes " " ++ kind_name names s.kind ++ codes "\n"

-- the lines of statements of a text
abbrev pub statement_lines : List ℕ → Names → List Statement → List ℕ
statement_lines text names statements =
    flat_map (λ s. statement_line (line_at text s.start) (column_at text s.start) names s) statements
