-- Kinds that the rules speak of.
use Rattle.std.specs.Prelude.{ℕ}

-- ---- words

abbrev pub CHAR_KW : ℕ
CHAR_KW = 246

abbrev pub CHARACTER_KW : ℕ
CHARACTER_KW = 247

abbrev pub CONCURRENTLY_KW : ℕ
CONCURRENTLY_KW = 264

abbrev pub IF_KW : ℕ
IF_KW = 366

abbrev pub INDEX_KW : ℕ
INDEX_KW = 374

abbrev pub INT_KW : ℕ
INT_KW = 386

abbrev pub INTEGER_KW : ℕ
INTEGER_KW = 387

abbrev pub NCHAR_KW : ℕ
NCHAR_KW = 431

abbrev pub TABLESPACE_KW : ℕ
TABLESPACE_KW = 569

abbrev pub TIMESTAMP_KW : ℕ
TIMESTAMP_KW = 576

abbrev pub VARCHAR_KW : ℕ
VARCHAR_KW = 606

abbrev pub WITH_KW : ℕ
WITH_KW = 618

-- ---- nodes

abbrev pub DROP : ℕ
DROP = 710

abbrev pub NAME_REF : ℕ
NAME_REF = 775

abbrev pub TYPE : ℕ
TYPE = 781

abbrev pub TYPE_ARGS : ℕ
TYPE_ARGS = 782

abbrev pub CALL_EXPR : ℕ
CALL_EXPR = 803

abbrev pub ARG_LIST : ℕ
ARG_LIST = 808

abbrev pub COLUMN_DEF : ℕ
COLUMN_DEF = 846

abbrev pub CREATE_TABLE : ℕ
CREATE_TABLE = 856

abbrev pub NOT_NULL_CONSTRAINT : ℕ
NOT_NULL_CONSTRAINT = 871

abbrev pub UNIQUE_CONSTRAINT : ℕ
UNIQUE_CONSTRAINT = 873

abbrev pub PRIMARY_KEY_CONSTRAINT : ℕ
PRIMARY_KEY_CONSTRAINT = 874

abbrev pub CHECK_CONSTRAINT : ℕ
CHECK_CONSTRAINT = 875

abbrev pub DEFAULT_CONSTRAINT : ℕ
DEFAULT_CONSTRAINT = 876

abbrev pub IDENTITY_CONSTRAINT : ℕ
IDENTITY_CONSTRAINT = 877

abbrev pub GENERATED_CONSTRAINT : ℕ
GENERATED_CONSTRAINT = 878

abbrev pub REFERENCES_CONSTRAINT : ℕ
REFERENCES_CONSTRAINT = 879

abbrev pub FOREIGN_KEY_CONSTRAINT : ℕ
FOREIGN_KEY_CONSTRAINT = 887

abbrev pub NOT_VALID : ℕ
NOT_VALID = 888

abbrev pub ALTER_TABLE : ℕ
ALTER_TABLE = 896

abbrev pub RENAME_TO : ℕ
RENAME_TO = 897

abbrev pub RENAME_COLUMN : ℕ
RENAME_COLUMN = 898

abbrev pub ADD_CONSTRAINT : ℕ
ADD_CONSTRAINT = 905

abbrev pub DROP_COLUMN : ℕ
DROP_COLUMN = 910

abbrev pub SET_NOT_NULL : ℕ
SET_NOT_NULL = 927

abbrev pub DROP_NOT_NULL : ℕ
DROP_NOT_NULL = 932

abbrev pub SET_TYPE : ℕ
SET_TYPE = 937

abbrev pub CREATE_INDEX : ℕ
CREATE_INDEX = 941
