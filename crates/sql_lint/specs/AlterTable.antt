-- The rules of ALTER TABLE on what is added. `of` is the kind of the statement that the node is in.
use Rattle.std.specs.Prelude.{ℕ, ◌==◌, ◌&&◌, ◌||◌, not, Bool, List, [], ◌∷◌, codes}
use Rattle.std.specs.List.{list_any}
use Rattle.squawk_tree.specs.Forest.{Forest}
use Rattle.syntax_tree.specs.Trees.{descendants_of, kind_at, nodes_among, of_kind}
use Rattle.sql_lint.specs.Kinds.{ADD_CONSTRAINT, ALTER_TABLE, ARG_LIST, CALL_EXPR, CHECK_CONSTRAINT, COLUMN_DEF, DEFAULT_CONSTRAINT, FOREIGN_KEY_CONSTRAINT, GENERATED_CONSTRAINT, IDENTITY_CONSTRAINT, INDEX_KW, NOT_NULL_CONSTRAINT, NOT_VALID, NAME_REF, PRIMARY_KEY_CONSTRAINT, REFERENCES_CONSTRAINT, SET_NOT_NULL, TABLESPACE_KW, UNIQUE_CONSTRAINT}
use Rattle.sql_lint.specs.Nodes.{first_meets, has_node, has_token, nodes_in, says}
use Rattle.sql_lint.specs.Rows.{Row}

-- a node of a kind in an ALTER TABLE
abbrev pub alters : ℕ → Forest → ℕ → ℕ → Bool
alters of tree at kind = (of == ALTER_TABLE) && (kind_at tree at == kind)

-- a call of a function by its name, but for `now`, whose value is the same in all rows
abbrev pub calls_anew : Forest → ℕ → Bool
calls_anew tree call = has_node tree call ARG_LIST && not (says tree call NAME_REF (codes "now"))

-- a default in which a function is called, or a generated column
abbrev pub adds_default : ℕ → Forest → ℕ → Bool
adds_default of tree at =
    (alters of tree at DEFAULT_CONSTRAINT && list_any (calls_anew tree) (of_kind tree CALL_EXPR (nodes_among tree (descendants_of tree at))))
    || alters of tree at GENERATED_CONSTRAINT

-- a column has a value in rows that stand
abbrev pub has_value : Forest → ℕ → Bool
has_value tree column =
    has_node tree column DEFAULT_CONSTRAINT || (has_node tree column GENERATED_CONSTRAINT || has_node tree column IDENTITY_CONSTRAINT)

-- SET NOT NULL, or a column that is NOT NULL and has no value in rows that stand
abbrev pub adds_not_null : ℕ → Forest → ℕ → Bool
adds_not_null of tree at =
    alters of tree at SET_NOT_NULL
    || (alters of tree at COLUMN_DEF && (has_node tree at NOT_NULL_CONSTRAINT && not (has_value tree at)))

-- the first node of a kind is there, without NOT VALID
abbrev pub has_valid : Forest → ℕ → ℕ → Bool
has_valid tree at kind = first_meets (λ node. not (has_node tree node NOT_VALID)) (nodes_in tree at kind)

-- ADD and a CHECK or FOREIGN KEY without NOT VALID
abbrev pub lacks_not_valid : ℕ → Forest → ℕ → Bool
lacks_not_valid of tree at =
    alters of tree at ADD_CONSTRAINT && (has_valid tree at CHECK_CONSTRAINT || has_valid tree at FOREIGN_KEY_CONSTRAINT)

-- REFERENCES of a column, or a FOREIGN KEY without NOT VALID
abbrev pub adds_foreign_key : ℕ → Forest → ℕ → Bool
adds_foreign_key of tree at =
    alters of tree at REFERENCES_CONSTRAINT
    || (alters of tree at FOREIGN_KEY_CONSTRAINT && not (has_node tree at NOT_VALID))

-- a constraint has USING INDEX, but not USING INDEX TABLESPACE
abbrev pub uses_index : Forest → ℕ → Bool
uses_index tree constraint = has_token tree constraint INDEX_KW && not (has_token tree constraint TABLESPACE_KW)

-- a constraint of a kind without an index
abbrev pub builds_index : ℕ → ℕ → Forest → ℕ → Bool
builds_index kind of tree at = alters of tree at kind && not (uses_index tree at)

-- the rules
abbrev pub adding_rules : ℕ → Forest → ℕ → List Row
adding_rules of tree at =
    (adds_default of tree at, codes "adding-field-with-default: the table is written anew")
    ∷ (adds_not_null of tree at, codes "adding-not-nullable-field: rows that stand may have no value")
    ∷ (lacks_not_valid of tree at, codes "constraint-missing-not-valid: all rows are read under a lock")
    ∷ (adds_foreign_key of tree at, codes "adding-foreign-key-constraint: both tables are locked")
    ∷ (builds_index UNIQUE_CONSTRAINT of tree at, codes "disallowed-unique-constraint: an index is built under a lock")
    ∷ (builds_index PRIMARY_KEY_CONSTRAINT of tree at, codes "adding-serial-primary-key-field: an index is built under a lock")
    ∷ []
