-- The rules, and what they find.
use Rattle.std.specs.Prelude.{ℕ, ◌==◌, ◌&&◌, not, Bool, true, false, List, [], ◌∷◌, ◌++◌, Option, Some, None, codes}
use Rattle.std.specs.List.{filter_map, flat_map}
use Rattle.squawk_tree.specs.Forest.{Forest}
use Rattle.sql_report.specs.Findings.{Told}
use Rattle.syntax_tree.specs.Trees.{children_of, descendants_of, kind_at, nodes_among, start_at}
use Rattle.sql_lint.specs.Kinds.{CONCURRENTLY_KW, CREATE_INDEX, DROP, DROP_COLUMN, DROP_NOT_NULL, IF_KW, RENAME_COLUMN, RENAME_TO, SET_TYPE}
use Rattle.sql_lint.specs.AlterTable.{adding_rules, alters}
use Rattle.sql_lint.specs.ColumnTypes.{type_rules}
use Rattle.sql_lint.specs.Nodes.{has_token}
use Rattle.sql_lint.specs.Rows.{Row}

-- a statement of a kind that has no word of a kind
abbrev pub lacks_word : ℕ → ℕ → ℕ → Forest → ℕ → Bool
lacks_word word kind of tree at = (of == kind) && ((kind_at tree at == kind) && not (has_token tree at word))

-- the rules on statements, and those of ALTER TABLE on what changes
abbrev pub changing_rules : ℕ → Forest → ℕ → List Row
changing_rules of tree at =
    (lacks_word IF_KW DROP of tree at, codes "prefer-robust-stmts: DROP without IF EXISTS")
    ∷ (lacks_word CONCURRENTLY_KW CREATE_INDEX of tree at, codes "require-concurrent-index-creation: CREATE INDEX without CONCURRENTLY")
    ∷ (alters of tree at SET_TYPE, codes "changing-column-type: the table may be written anew")
    ∷ (alters of tree at DROP_COLUMN, codes "ban-drop-column: programs may use the column")
    ∷ (alters of tree at DROP_NOT_NULL, codes "ban-drop-not-null: programs may not expect NULL")
    ∷ (alters of tree at RENAME_COLUMN, codes "renaming-column: programs may use the old name")
    ∷ (alters of tree at RENAME_TO, codes "renaming-table: programs may use the old name")
    ∷ []

-- all rules
abbrev pub rules : ℕ → Forest → ℕ → List Row
rules of tree at = changing_rules of tree at ++ (adding_rules of tree at ++ type_rules of tree at)

-- ---- findings

-- the finding at a byte, if a rule is broken
abbrev pub told_if : ℕ → Row → Option Told
told_if start (false, message) = None
told_if start (true, message) = Some (record { at = start; message = message; hint = None })

-- the findings at a node in a statement of a kind: at the byte where it begins
abbrev pub findings_at : ℕ → Forest → ℕ → List Told
findings_at of tree at = filter_map (told_if (start_at tree at)) (rules of tree at)

-- the findings at a statement and the nodes in it
abbrev pub findings_of : Forest → ℕ → List Told
findings_of tree statement = flat_map (findings_at (kind_at tree statement) tree) (nodes_among tree (descendants_of tree statement))

-- the findings in a tree: those of the nodes directly in the root, in order
abbrev pub findings_in : Forest → List Told
findings_in tree = flat_map (findings_of tree) (nodes_among tree (children_of tree 0))
