-- The kinds that the code has constants for, each under the name of its constant, in the order of their numbers.
use Rattle.std.specs.Prelude.{ℕ, List, [], ◌∷◌}
use Rattle.squawk_kinds.specs.Kinds as kind

abbrev pub constants : List ℕ
constants =
    kind.EOF ∷ kind.TOMBSTONE ∷ kind.ERROR ∷ kind.IDENT ∷ kind.COMMENT ∷ kind.SEMICOLON ∷ kind.COMMA ∷ kind.DOT ∷ kind.DOT_DOT ∷
    kind.L_PAREN ∷ kind.R_PAREN ∷ kind.L_BRACK ∷ kind.R_BRACK ∷ kind.L_CURLY ∷ kind.R_CURLY ∷ kind.AT ∷ kind.POUND ∷ kind.TILDE ∷
    kind.QUESTION ∷ kind.COLON ∷ kind.EQ ∷ kind.BANG ∷ kind.L_ANGLE ∷ kind.R_ANGLE ∷ kind.MINUS ∷ kind.AMP ∷ kind.PIPE ∷
    kind.PLUS ∷ kind.STAR ∷ kind.SLASH ∷ kind.CARET ∷ kind.PERCENT ∷ kind.BACKTICK ∷ kind.INT_NUMBER ∷ kind.NUMERIC_NUMBER ∷
    kind.STRING ∷ kind.NATIONAL_STRING ∷ kind.BYTE_STRING ∷ kind.BIT_STRING ∷ kind.DOLLAR_QUOTED_STRING ∷
    kind.UNICODE_ESC_STRING ∷ kind.ESC_STRING ∷ kind.POSITIONAL_PARAM ∷ kind.PSQL_COMMAND_TEXT ∷ kind.PSQL_TERMINATOR_TEXT ∷
    kind.COLON_EQ ∷ kind.NEQ ∷ kind.NEQB ∷ kind.LTEQ ∷ kind.FAT_ARROW ∷ kind.LESS_LESS ∷ kind.GREATER_GREATER ∷ kind.GTEQ ∷
    kind.LONG_ARROW ∷ kind.SIMILAR_KW ∷ kind.TO_KW ∷ kind.AT_KW ∷ kind.TIME_KW ∷ kind.ZONE_KW ∷ kind.LOCAL_KW ∷ kind.IS_KW ∷
    kind.NOT_KW ∷ kind.NFC_KW ∷ kind.NFD_KW ∷ kind.NFKC_KW ∷ kind.NFKD_KW ∷ kind.NORMALIZED_KW ∷ kind.JSON_KW ∷ kind.OBJECT_KW ∷
    kind.ARRAY_KW ∷ kind.VALUE_KW ∷ kind.SCALAR_KW ∷ kind.DISTINCT_KW ∷ kind.FROM_KW ∷ kind.OPERATOR_KW ∷ kind.LIKE_KW ∷
    kind.ILIKE_KW ∷ kind.IN_KW ∷ kind.WHITESPACE ∷ kind.SIMILAR_TO ∷ kind.AT_TIME_ZONE ∷ kind.AT_LOCAL ∷ kind.IS_NOT_NORMALIZED ∷
    kind.IS_NORMALIZED ∷ kind.COLON_COLON ∷ kind.IS_JSON ∷ kind.IS_NOT_JSON ∷ kind.IS_NOT_JSON_OBJECT ∷ kind.IS_NOT_JSON_ARRAY ∷
    kind.IS_NOT_JSON_VALUE ∷ kind.IS_NOT_JSON_SCALAR ∷ kind.IS_JSON_OBJECT ∷ kind.IS_JSON_ARRAY ∷ kind.IS_JSON_VALUE ∷
    kind.IS_JSON_SCALAR ∷ kind.NOT_SIMILAR_TO ∷ kind.IS_NOT_DISTINCT_FROM ∷ kind.OPERATOR_CALL ∷ kind.IS_DISTINCT_FROM ∷
    kind.NOT_LIKE ∷ kind.NOT_ILIKE ∷ kind.NOT_IN ∷ kind.IS_NOT ∷ kind.CUSTOM_OP ∷ kind.UNICODE_NORMAL_FORM ∷ []
