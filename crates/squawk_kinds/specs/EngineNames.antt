-- The names of the kinds that the code has constants for.
use Rattle.std.specs.Prelude.{ℕ, ◌==◌, ◌++◌, List, [], ◌∷◌, codes, cond, map}
use Rattle.std.specs.List.{zip}
use Rattle.squawk_kinds.specs.Constants.{constants}
use Rattle.squawk_kinds.specs.KindNames.{Names}
use Rattle.squawk_kinds.specs.declared.engine_names.NamedKind.{NamedKind}
use denote.Ref.{Bor}

-- the words of a text, which are separated by one space each; what stands behind a word that has begun
abbrev pub words_behind : List ℕ → List ℕ → List (List ℕ)
words_behind word [] = word ∷ []
words_behind word (byte ∷ rest) = cond (byte == 32) (word ∷ words_behind [] rest) (words_behind (word ++ byte ∷ []) rest)

abbrev pub words_in : List ℕ → List (List ℕ)
words_in = words_behind []

-- the name of each kind is that of its constant
unfoldable pub engine_names : Names
engine_names = zip constants (
    words_in (codes "EOF TOMBSTONE ERROR IDENT COMMENT SEMICOLON COMMA DOT DOT_DOT L_PAREN R_PAREN L_BRACK R_BRACK") ++
    words_in (codes "L_CURLY R_CURLY AT POUND TILDE QUESTION COLON EQ BANG L_ANGLE R_ANGLE MINUS AMP PIPE PLUS STAR") ++
    words_in (codes "SLASH CARET PERCENT BACKTICK INT_NUMBER NUMERIC_NUMBER STRING NATIONAL_STRING BYTE_STRING") ++
    words_in (codes "BIT_STRING DOLLAR_QUOTED_STRING UNICODE_ESC_STRING ESC_STRING POSITIONAL_PARAM PSQL_COMMAND_TEXT") ++
    words_in (codes "PSQL_TERMINATOR_TEXT COLON_EQ NEQ NEQB LTEQ FAT_ARROW LESS_LESS GREATER_GREATER GTEQ LONG_ARROW") ++
    words_in (codes "SIMILAR_KW TO_KW AT_KW TIME_KW ZONE_KW LOCAL_KW IS_KW NOT_KW NFC_KW NFD_KW NFKC_KW NFKD_KW") ++
    words_in (codes "NORMALIZED_KW JSON_KW OBJECT_KW ARRAY_KW VALUE_KW SCALAR_KW DISTINCT_KW FROM_KW OPERATOR_KW") ++
    words_in (codes "LIKE_KW ILIKE_KW IN_KW WHITESPACE SIMILAR_TO AT_TIME_ZONE AT_LOCAL IS_NOT_NORMALIZED") ++
    words_in (codes "IS_NORMALIZED COLON_COLON IS_JSON IS_NOT_JSON IS_NOT_JSON_OBJECT IS_NOT_JSON_ARRAY") ++
    words_in (codes "IS_NOT_JSON_VALUE IS_NOT_JSON_SCALAR IS_JSON_OBJECT IS_JSON_ARRAY IS_JSON_VALUE IS_JSON_SCALAR") ++
    words_in (codes "NOT_SIMILAR_TO IS_NOT_DISTINCT_FROM OPERATOR_CALL IS_DISTINCT_FROM NOT_LIKE NOT_ILIKE NOT_IN") ++
    words_in (codes "IS_NOT CUSTOM_OP UNICODE_NORMAL_FORM"))

-- kinds with names, as the code has them
abbrev pub names_in : List NamedKind → Names
names_in = map (λ named. (named.kind, named.name.now))

abbrev pub names_of : List (ℕ × Bor (List ℕ)) → Names
names_of = map (λ pair. (pair.0, pair.1.now))
