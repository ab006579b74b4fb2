-- The syntax kinds that contracts name, by their numbers.
use Rattle.std.specs.Prelude.{◌≢◌, ℕ, ◌≤◌, ◌==◌, ◌||◌, Bool}

-- the end of an input
abbrev pub EOF : ℕ
EOF = 0

-- an open or abandoned marker's, never a node's
abbrev pub TOMBSTONE : ℕ
TOMBSTONE = 1

-- a token of no other kind
abbrev pub ERROR : ℕ
ERROR = 2

abbrev pub IDENT : ℕ
IDENT = 3

abbrev pub COMMENT : ℕ
COMMENT = 4

abbrev pub WHITESPACE : ℕ
WHITESPACE = 639

-- a kind that a token can have
abbrev pub IsTokenKind : ℕ → Type 0
IsTokenKind kind = kind ≤ WHITESPACE

-- whether a parser doesn't see tokens of the kind
abbrev pub is_trivia : ℕ → Bool
is_trivia kind = (kind == WHITESPACE) || (kind == COMMENT)

-- a kind that a vocabulary may give to an identifier
pub record IsKeyword (kind : ℕ) : Type 0 where
  pub token : IsTokenKind kind
  pub not_end : kind ≢ EOF
  pub not_tombstone : kind ≢ TOMBSTONE
  pub not_comment : kind ≢ COMMENT
  pub not_whitespace : kind ≢ WHITESPACE

-- ---- signs

abbrev pub SEMICOLON : ℕ
SEMICOLON = 5

abbrev pub COMMA : ℕ
COMMA = 6

abbrev pub DOT : ℕ
DOT = 7

abbrev pub DOT_DOT : ℕ
DOT_DOT = 8

abbrev pub L_PAREN : ℕ
L_PAREN = 9

abbrev pub R_PAREN : ℕ
R_PAREN = 10

abbrev pub L_BRACK : ℕ
L_BRACK = 11

abbrev pub R_BRACK : ℕ
R_BRACK = 12

abbrev pub L_CURLY : ℕ
L_CURLY = 13

abbrev pub R_CURLY : ℕ
R_CURLY = 14

abbrev pub AT : ℕ
AT = 15

abbrev pub POUND : ℕ
POUND = 16

abbrev pub TILDE : ℕ
TILDE = 17

abbrev pub QUESTION : ℕ
QUESTION = 18

abbrev pub COLON : ℕ
COLON = 19

abbrev pub EQ : ℕ
EQ = 20

abbrev pub BANG : ℕ
BANG = 21

abbrev pub L_ANGLE : ℕ
L_ANGLE = 22

abbrev pub R_ANGLE : ℕ
R_ANGLE = 23

abbrev pub MINUS : ℕ
MINUS = 24

abbrev pub AMP : ℕ
AMP = 25

abbrev pub PIPE : ℕ
PIPE = 26

abbrev pub PLUS : ℕ
PLUS = 27

abbrev pub STAR : ℕ
STAR = 28

abbrev pub SLASH : ℕ
SLASH = 29

abbrev pub CARET : ℕ
CARET = 30

abbrev pub PERCENT : ℕ
PERCENT = 31

abbrev pub BACKTICK : ℕ
BACKTICK = 32

-- ---- literals, parameters and commands

abbrev pub INT_NUMBER : ℕ
INT_NUMBER = 33

abbrev pub NUMERIC_NUMBER : ℕ
NUMERIC_NUMBER = 34

abbrev pub STRING : ℕ
STRING = 35

abbrev pub NATIONAL_STRING : ℕ
NATIONAL_STRING = 36

abbrev pub BYTE_STRING : ℕ
BYTE_STRING = 37

abbrev pub BIT_STRING : ℕ
BIT_STRING = 38

abbrev pub DOLLAR_QUOTED_STRING : ℕ
DOLLAR_QUOTED_STRING = 39

abbrev pub UNICODE_ESC_STRING : ℕ
UNICODE_ESC_STRING = 40

abbrev pub ESC_STRING : ℕ
ESC_STRING = 41

abbrev pub POSITIONAL_PARAM : ℕ
POSITIONAL_PARAM = 42

abbrev pub PSQL_COMMAND_TEXT : ℕ
PSQL_COMMAND_TEXT = 43

abbrev pub PSQL_TERMINATOR_TEXT : ℕ
PSQL_TERMINATOR_TEXT = 44

-- ---- signs that are glued

abbrev pub COLON_EQ : ℕ
COLON_EQ = 45

abbrev pub NEQ : ℕ
NEQ = 46

abbrev pub NEQB : ℕ
NEQB = 47

abbrev pub LTEQ : ℕ
LTEQ = 48

abbrev pub FAT_ARROW : ℕ
FAT_ARROW = 49

abbrev pub LESS_LESS : ℕ
LESS_LESS = 50

abbrev pub GREATER_GREATER : ℕ
GREATER_GREATER = 51

abbrev pub GTEQ : ℕ
GTEQ = 52

abbrev pub LONG_ARROW : ℕ
LONG_ARROW = 53

-- ---- keywords of composite kinds

abbrev pub SIMILAR_KW : ℕ
SIMILAR_KW = 64

abbrev pub TO_KW : ℕ
TO_KW = 65

abbrev pub AT_KW : ℕ
AT_KW = 66

abbrev pub TIME_KW : ℕ
TIME_KW = 67

abbrev pub ZONE_KW : ℕ
ZONE_KW = 68

abbrev pub LOCAL_KW : ℕ
LOCAL_KW = 69

abbrev pub IS_KW : ℕ
IS_KW = 70

abbrev pub NOT_KW : ℕ
NOT_KW = 71

abbrev pub NFC_KW : ℕ
NFC_KW = 72

abbrev pub NFD_KW : ℕ
NFD_KW = 73

abbrev pub NFKC_KW : ℕ
NFKC_KW = 74

abbrev pub NFKD_KW : ℕ
NFKD_KW = 75

abbrev pub NORMALIZED_KW : ℕ
NORMALIZED_KW = 76

abbrev pub JSON_KW : ℕ
JSON_KW = 77

abbrev pub OBJECT_KW : ℕ
OBJECT_KW = 78

abbrev pub ARRAY_KW : ℕ
ARRAY_KW = 79

abbrev pub VALUE_KW : ℕ
VALUE_KW = 80

abbrev pub SCALAR_KW : ℕ
SCALAR_KW = 81

abbrev pub DISTINCT_KW : ℕ
DISTINCT_KW = 82

abbrev pub FROM_KW : ℕ
FROM_KW = 83

abbrev pub OPERATOR_KW : ℕ
OPERATOR_KW = 84

abbrev pub LIKE_KW : ℕ
LIKE_KW = 85

abbrev pub ILIKE_KW : ℕ
ILIKE_KW = 86

abbrev pub IN_KW : ℕ
IN_KW = 87

-- ---- composite kinds that are nodes

abbrev pub SIMILAR_TO : ℕ
SIMILAR_TO = 640

abbrev pub AT_TIME_ZONE : ℕ
AT_TIME_ZONE = 641

abbrev pub AT_LOCAL : ℕ
AT_LOCAL = 642

abbrev pub IS_NOT_NORMALIZED : ℕ
IS_NOT_NORMALIZED = 643

abbrev pub IS_NORMALIZED : ℕ
IS_NORMALIZED = 644

abbrev pub COLON_COLON : ℕ
COLON_COLON = 645

abbrev pub IS_JSON : ℕ
IS_JSON = 646

abbrev pub IS_NOT_JSON : ℕ
IS_NOT_JSON = 647

abbrev pub IS_NOT_JSON_OBJECT : ℕ
IS_NOT_JSON_OBJECT = 648

abbrev pub IS_NOT_JSON_ARRAY : ℕ
IS_NOT_JSON_ARRAY = 649

abbrev pub IS_NOT_JSON_VALUE : ℕ
IS_NOT_JSON_VALUE = 650

abbrev pub IS_NOT_JSON_SCALAR : ℕ
IS_NOT_JSON_SCALAR = 651

abbrev pub IS_JSON_OBJECT : ℕ
IS_JSON_OBJECT = 652

abbrev pub IS_JSON_ARRAY : ℕ
IS_JSON_ARRAY = 653

abbrev pub IS_JSON_VALUE : ℕ
IS_JSON_VALUE = 654

abbrev pub IS_JSON_SCALAR : ℕ
IS_JSON_SCALAR = 655

abbrev pub NOT_SIMILAR_TO : ℕ
NOT_SIMILAR_TO = 656

abbrev pub IS_NOT_DISTINCT_FROM : ℕ
IS_NOT_DISTINCT_FROM = 657

abbrev pub OPERATOR_CALL : ℕ
OPERATOR_CALL = 658

abbrev pub IS_DISTINCT_FROM : ℕ
IS_DISTINCT_FROM = 659

abbrev pub NOT_LIKE : ℕ
NOT_LIKE = 660

abbrev pub NOT_ILIKE : ℕ
NOT_ILIKE = 661

abbrev pub NOT_IN : ℕ
NOT_IN = 662

abbrev pub IS_NOT : ℕ
IS_NOT = 663

abbrev pub CUSTOM_OP : ℕ
CUSTOM_OP = 664

abbrev pub UNICODE_NORMAL_FORM : ℕ
UNICODE_NORMAL_FORM = 665
