-- Kinds that the definitions speak of.
use Rattle.std.specs.Prelude.{ℕ, List, [], ◌∷◌}
use Rattle.squawk_kinds.specs.Kinds.{AMP, AT, BACKTICK, BANG, CARET, EQ, L_ANGLE, MINUS, PERCENT, PIPE, PLUS, POUND, QUESTION, R_ANGLE, SLASH, STAR, TILDE}
use Rattle.squawk_kinds.specs.declared.token_set.TokenSet.{TokenSet}
use Rattle.squawk_kinds.proofs.ConstantSets.{words_of}
use Rattle.squawk_parser.specs.Words.{Words}

-- ---- what operators are made of (PostgreSQL's documentation, section 4.1.3 "Operators")

abbrev pub operator_kinds : List ℕ
operator_kinds = PLUS ∷ MINUS ∷ STAR ∷ SLASH ∷ L_ANGLE ∷ R_ANGLE ∷ EQ ∷ TILDE ∷ BANG ∷ AT ∷ POUND ∷ PERCENT ∷ CARET ∷ AMP ∷ PIPE ∷ BACKTICK ∷ QUESTION ∷ []

abbrev pub operator_set : TokenSet
operator_set = words_of operator_kinds

-- what a parser of SQL is told of words: these operators, and no names for kinds
abbrev pub sql_words : Words
sql_words = record { operator_first = operator_set; names = [] }

-- ---- words

abbrev pub AS_KW : ℕ
AS_KW = 216

abbrev pub ATOMIC_KW : ℕ
ATOMIC_KW = 222

abbrev pub BEGIN_KW : ℕ
BEGIN_KW = 228

abbrev pub CASE_KW : ℕ
CASE_KW = 242

abbrev pub COPY_KW : ℕ
COPY_KW = 273

abbrev pub CREATE_KW : ℕ
CREATE_KW = 275

abbrev pub END_KW : ℕ
END_KW = 321

abbrev pub FUNCTION_KW : ℕ
FUNCTION_KW = 350

abbrev pub OR_KW : ℕ
OR_KW = 454

abbrev pub PROCEDURE_KW : ℕ
PROCEDURE_KW = 486

abbrev pub REPLACE_KW : ℕ
REPLACE_KW = 506

abbrev pub RULE_KW : ℕ
RULE_KW = 523

abbrev pub STDIN_KW : ℕ
STDIN_KW = 554

abbrev pub STDOUT_KW : ℕ
STDOUT_KW = 555

-- ---- nodes

abbrev pub SOURCE_FILE : ℕ
SOURCE_FILE = 700

abbrev pub STATEMENT : ℕ
STATEMENT = 701

abbrev pub PSQL_COMMAND : ℕ
PSQL_COMMAND = 702
