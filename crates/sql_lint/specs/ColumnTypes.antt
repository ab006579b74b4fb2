-- The rules on the types of columns. `of` is the kind of the statement that the node is in.
use Rattle.std.specs.Prelude.{ℕ, ◌==◌, ◌&&◌, ◌||◌, not, Bool, List, [], ◌∷◌, codes, if◌then◌else◌}
use Rattle.squawk_tree.specs.Forest.{Forest}
use Rattle.syntax_tree.specs.Trees.{kind_at}
use Rattle.sql_lint.specs.Kinds.{ALTER_TABLE, CHARACTER_KW, CHAR_KW, COLUMN_DEF, CREATE_TABLE, INTEGER_KW, INT_KW, NAME_REF, NCHAR_KW, SET_TYPE, TIMESTAMP_KW, TYPE, TYPE_ARGS, VARCHAR_KW, WITH_KW}
use Rattle.sql_lint.specs.Nodes.{first_meets, has_node, has_token, nodes_in, says}
use Rattle.sql_lint.specs.Rows.{Row}

-- a node of a kind defines a column of a table, or gives one another type
abbrev pub types_column : ℕ → ℕ → Bool
types_column of kind = ((of == CREATE_TABLE) || (of == ALTER_TABLE)) && ((kind == COLUMN_DEF) || (kind == SET_TYPE))

-- the types that it has
abbrev pub column_types : ℕ → Forest → ℕ → List ℕ
column_types of tree at = if types_column of (kind_at tree at) then nodes_in tree at TYPE else []

-- varchar, char and the like; with a length
abbrev pub is_of_characters : Forest → ℕ → Bool
is_of_characters tree type =
    has_token tree type VARCHAR_KW || (has_token tree type CHARACTER_KW || (has_token tree type CHAR_KW || has_token tree type NCHAR_KW))

abbrev pub has_length : Forest → ℕ → Bool
has_length tree type = has_node tree type TYPE_ARGS && is_of_characters tree type

-- int or integer; int4, serial or serial4
abbrev pub is_int : Forest → ℕ → Bool
is_int tree type = has_token tree type INT_KW || has_token tree type INTEGER_KW

abbrev pub is_named_int : Forest → ℕ → Bool
is_named_int tree type =
    says tree type NAME_REF (codes "int4") || (says tree type NAME_REF (codes "serial") || says tree type NAME_REF (codes "serial4"))

abbrev pub has_32_bits : Forest → ℕ → Bool
has_32_bits tree type = is_int tree type || is_named_int tree type

-- timestamp, but for timestamp with time zone
abbrev pub lacks_zone : Forest → ℕ → Bool
lacks_zone tree type = has_token tree type TIMESTAMP_KW && not (has_token tree type WITH_KW)

-- the rules
abbrev pub type_rules : ℕ → Forest → ℕ → List Row
type_rules of tree at =
    (first_meets (has_length tree) (column_types of tree at), codes "prefer-text-field: another length wants a lock")
    ∷ (first_meets (has_32_bits tree) (column_types of tree at), codes "prefer-bigint-over-int: 32 bits may run out")
    ∷ (first_meets (lacks_zone tree) (column_types of tree at), codes "prefer-timestamptz: the time zone is lost")
    ∷ []
