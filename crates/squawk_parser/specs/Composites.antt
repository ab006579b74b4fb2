-- The composite kinds: which tokens each consists of.
use Rattle.std.specs.Prelude.{◌≢◌, ℕ, suc, All, ◌-◌, ◌==◌, ◌&&◌, ◌||◌, not, Bool, true, Option, Some, None, List, [], ◌∷◌, length, drop, is_some, option_map, if◌then◌else◌}
use Rattle.std.specs.List.{find, list_any}
use Rattle.squawk_kinds.specs.Kinds.{EOF, L_PAREN, R_PAREN, COLON, EQ, BANG, L_ANGLE, R_ANGLE, MINUS, COLON_EQ, NEQ, NEQB, LTEQ, FAT_ARROW, LESS_LESS, GREATER_GREATER, GTEQ, LONG_ARROW, SIMILAR_KW, TO_KW, AT_KW, TIME_KW, ZONE_KW, LOCAL_KW, IS_KW, NOT_KW, NFC_KW, NFD_KW, NFKC_KW, NFKD_KW, NORMALIZED_KW, JSON_KW, OBJECT_KW, ARRAY_KW, VALUE_KW, SCALAR_KW, DISTINCT_KW, FROM_KW, OPERATOR_KW, LIKE_KW, ILIKE_KW, IN_KW, SIMILAR_TO, AT_TIME_ZONE, AT_LOCAL, IS_NOT_NORMALIZED, IS_NORMALIZED, COLON_COLON, IS_JSON, IS_NOT_JSON, IS_NOT_JSON_OBJECT, IS_NOT_JSON_ARRAY, IS_NOT_JSON_VALUE, IS_NOT_JSON_SCALAR, IS_JSON_OBJECT, IS_JSON_ARRAY, IS_JSON_VALUE, IS_JSON_SCALAR, NOT_SIMILAR_TO, IS_NOT_DISTINCT_FROM, OPERATOR_CALL, IS_DISTINCT_FROM, NOT_LIKE, NOT_ILIKE, NOT_IN, IS_NOT, CUSTOM_OP, UNICODE_NORMAL_FORM}
use Rattle.squawk_table.specs.ParserInput.{Entry, kind_in}
use Rattle.squawk_parser.specs.LookAhead.{is_joint_next}
use Rattle.squawk_parser.specs.Operators.{operator_length}

-- an element of a sequence
pub data Element : Type 0 where
  -- a token of this kind
  One : ℕ → Element
  -- at most one token of these kinds, in a node of its own
  AtMostOne : ℕ → List ℕ → Element

-- what follows the elements of a sequence, inside its node
pub data Tail : Type 0 where
  NoTail : Tail
  -- what the grammar's part records
  Open : Tail
  -- what the grammar's part records, and then a token of this kind, which is expected
  ClosedBy : ℕ → Tail

-- how the tokens of a composite kind stand, and what they become
pub data Form : Type 0 where
  -- they are joint, and become one token
  Glued : List ℕ → Form
  -- they are joint, and become a node of one token each
  Joint : List ℕ → Form
  -- trivia may stand between them; they become a node of one token each
  Sequence : List Element → Tail → Form
  -- they are an operator, and become a node of one token each
  Operator : Form

pub record Composite : Type 0 where
  pub kind : ℕ
  pub form : Form

abbrev pub glued : ℕ → List ℕ → Composite
glued kind parts = record { kind = kind; form = Glued parts }

abbrev pub in_sequence : ℕ → List Element → Composite
in_sequence kind elements = record { kind = kind; form = Sequence elements NoTail }

abbrev pub with_tail : ℕ → List Element → Composite
with_tail kind elements = record { kind = kind; form = Sequence elements Open }

-- the keywords of Unicode's normal forms
abbrev pub normal_forms : List ℕ
normal_forms = NFC_KW ∷ NFD_KW ∷ NFKC_KW ∷ NFKD_KW ∷ []

abbrev pub normal_form : Element
normal_form = AtMostOne UNICODE_NORMAL_FORM normal_forms

-- all composite kinds, each once
abbrev pub composites : List Composite
composites =
    glued COLON_EQ (COLON ∷ EQ ∷ [])
    ∷ glued NEQ (BANG ∷ EQ ∷ [])
    ∷ glued NEQB (L_ANGLE ∷ R_ANGLE ∷ [])
    ∷ glued LTEQ (L_ANGLE ∷ EQ ∷ [])
    ∷ glued FAT_ARROW (EQ ∷ R_ANGLE ∷ [])
    ∷ glued LESS_LESS (L_ANGLE ∷ L_ANGLE ∷ [])
    ∷ glued GREATER_GREATER (R_ANGLE ∷ R_ANGLE ∷ [])
    ∷ glued GTEQ (R_ANGLE ∷ EQ ∷ [])
    ∷ glued LONG_ARROW (MINUS ∷ R_ANGLE ∷ R_ANGLE ∷ [])
    ∷ record { kind = COLON_COLON; form = Joint (COLON ∷ COLON ∷ []) }
    ∷ in_sequence SIMILAR_TO (One SIMILAR_KW ∷ One TO_KW ∷ [])
    ∷ in_sequence NOT_SIMILAR_TO (One NOT_KW ∷ One SIMILAR_KW ∷ One TO_KW ∷ [])
    ∷ in_sequence AT_TIME_ZONE (One AT_KW ∷ One TIME_KW ∷ One ZONE_KW ∷ [])
    ∷ in_sequence AT_LOCAL (One AT_KW ∷ One LOCAL_KW ∷ [])
    ∷ in_sequence IS_NOT (One IS_KW ∷ One NOT_KW ∷ [])
    ∷ in_sequence IS_DISTINCT_FROM (One IS_KW ∷ One DISTINCT_KW ∷ One FROM_KW ∷ [])
    ∷ in_sequence IS_NOT_DISTINCT_FROM (One IS_KW ∷ One NOT_KW ∷ One DISTINCT_KW ∷ One FROM_KW ∷ [])
    ∷ in_sequence NOT_LIKE (One NOT_KW ∷ One LIKE_KW ∷ [])
    ∷ in_sequence NOT_ILIKE (One NOT_KW ∷ One ILIKE_KW ∷ [])
    ∷ in_sequence NOT_IN (One NOT_KW ∷ One IN_KW ∷ [])
    ∷ in_sequence IS_NORMALIZED (One IS_KW ∷ normal_form ∷ One NORMALIZED_KW ∷ [])
    ∷ in_sequence IS_NOT_NORMALIZED (One IS_KW ∷ One NOT_KW ∷ normal_form ∷ One NORMALIZED_KW ∷ [])
    ∷ with_tail IS_JSON (One IS_KW ∷ One JSON_KW ∷ [])
    ∷ with_tail IS_JSON_OBJECT (One IS_KW ∷ One JSON_KW ∷ One OBJECT_KW ∷ [])
    ∷ with_tail IS_JSON_ARRAY (One IS_KW ∷ One JSON_KW ∷ One ARRAY_KW ∷ [])
    ∷ with_tail IS_JSON_VALUE (One IS_KW ∷ One JSON_KW ∷ One VALUE_KW ∷ [])
    ∷ with_tail IS_JSON_SCALAR (One IS_KW ∷ One JSON_KW ∷ One SCALAR_KW ∷ [])
    ∷ with_tail IS_NOT_JSON (One IS_KW ∷ One NOT_KW ∷ One JSON_KW ∷ [])
    ∷ with_tail IS_NOT_JSON_OBJECT (One IS_KW ∷ One NOT_KW ∷ One JSON_KW ∷ One OBJECT_KW ∷ [])
    ∷ with_tail IS_NOT_JSON_ARRAY (One IS_KW ∷ One NOT_KW ∷ One JSON_KW ∷ One ARRAY_KW ∷ [])
    ∷ with_tail IS_NOT_JSON_VALUE (One IS_KW ∷ One NOT_KW ∷ One JSON_KW ∷ One VALUE_KW ∷ [])
    ∷ with_tail IS_NOT_JSON_SCALAR (One IS_KW ∷ One NOT_KW ∷ One JSON_KW ∷ One SCALAR_KW ∷ [])
    ∷ record { kind = OPERATOR_CALL; form = Sequence (One OPERATOR_KW ∷ One L_PAREN ∷ []) (ClosedBy R_PAREN) }
    ∷ record { kind = CUSTOM_OP; form = Operator }
    ∷ []

-- none of these kinds is EOF
abbrev pub HasNoEndKind : List ℕ → Type 0
HasNoEndKind kinds = All (λ kind. kind ≢ EOF) kinds

-- ---- where they stand

-- whether these kinds are at the front and each is joint with the next
abbrev pub are_joint : List ℕ → List Entry → Bool
are_joint [] seen = true
are_joint (kind ∷ kinds) seen = (kind_in seen 0 == kind) && ((length kinds == 0) || is_joint_next seen) && are_joint kinds (drop 1 seen)

-- Whether the first n tokens, which are joint, are no part of a longer operator: if the first of them and the token behind them
-- have kinds of operators, and the last is joint with that, the operator is as long as they are.
abbrev pub are_apart : (ℕ → Bool) → ℕ → List Entry → Bool
are_apart operator_kind n seen =
    not (operator_kind (kind_in seen 0) && operator_kind (kind_in seen n) && is_joint_next (drop (n - 1) seen)) || (operator_length operator_kind seen == n)

-- the number of tokens that the elements of a sequence have at the front, if they are there
abbrev pub sequence_length : List Element → List Entry → Option ℕ
sequence_length [] seen = Some 0
sequence_length (One kind ∷ elements) seen =
    if kind_in seen 0 == kind then option_map suc (sequence_length elements (drop 1 seen)) else None
sequence_length (AtMostOne node kinds ∷ elements) seen =
    if list_any (λ kind. kind_in seen 0 == kind) kinds then option_map suc (sequence_length elements (drop 1 seen)) else sequence_length elements seen

abbrev pub has_form : (ℕ → Bool) → Form → List Entry → Bool
has_form operator_kind (Glued parts) seen = are_joint parts seen && are_apart operator_kind (length parts) seen
has_form operator_kind (Joint parts) seen = are_joint parts seen && are_apart operator_kind (length parts) seen
has_form operator_kind (Sequence elements tail) seen = is_some (sequence_length elements seen)
has_form operator_kind Operator seen = operator_kind (kind_in seen 0)

-- a kind that isn't composite is at the front if the first token has it
abbrev pub stands_as : (ℕ → Bool) → ℕ → Option Composite → List Entry → Bool
stands_as operator_kind kind None seen = kind_in seen 0 == kind
stands_as operator_kind kind (Some composite) seen = has_form operator_kind composite.form seen

-- whether the kind is at the front of these tokens
abbrev pub stands_at : (ℕ → Bool) → ℕ → List Entry → Bool
stands_at operator_kind kind seen = stands_as operator_kind kind (find (λ composite. composite.kind == kind) composites) seen
