-- The vocabulary of PostgreSQL's keywords.
use Rattle.std.specs.Prelude.{◌≡◌, ℕ, ◌==◌, List, [], ◌∷◌}
use Rattle.std.specs.List.{list_any}
use Rattle.squawk_kinds.specs.Kinds as kind
use Rattle.squawk_kinds.specs.TokenSets.{has}
use Rattle.squawk_keywords.specs.KeywordAnswers.{all_keywords_of, classes_of, contextual_keyword_of, contextual_keywords_of, keyword_of}
use Rattle.squawk_keywords.specs.KeywordPairs.{has_kind, kind_of_word_ignoring_case}
use Rattle.squawk_keywords.specs.declared.classes.Classes.{Classes}
use Rattle.squawk_keywords.specs.declared.keywords.Keywords.{Keywords}
use Rattle.sql_words.specs.SqlKinds.{contextual_kinds, is_kind_of, keyword_kinds}
use Rattle.sql_words.specs.declared.category.Category.TheVariants.{ColName, Reserved, TypeFuncName}

-- the signs that the names of operators are made of, and the operators that have a kind
abbrev pub operators : List ℕ
operators =
    kind.PLUS ∷ kind.MINUS ∷ kind.STAR ∷ kind.SLASH ∷ kind.L_ANGLE ∷ kind.R_ANGLE ∷ kind.EQ ∷ kind.TILDE ∷ kind.BANG ∷ kind.AT ∷
    kind.POUND ∷ kind.PERCENT ∷ kind.CARET ∷ kind.AMP ∷ kind.PIPE ∷ kind.BACKTICK ∷ kind.QUESTION ∷ kind.NEQ ∷ kind.NEQB ∷
    kind.LTEQ ∷ kind.GTEQ ∷ kind.LESS_LESS ∷ kind.GREATER_GREATER ∷ kind.LONG_ARROW ∷ []

-- the other signs
abbrev pub punctuation : List ℕ
punctuation =
    kind.SEMICOLON ∷ kind.COMMA ∷ kind.DOT ∷ kind.DOT_DOT ∷ kind.L_PAREN ∷ kind.R_PAREN ∷ kind.L_BRACK ∷ kind.R_BRACK ∷
    kind.L_CURLY ∷ kind.R_CURLY ∷ kind.COLON ∷ kind.COLON_EQ ∷ kind.FAT_ARROW ∷ []

-- the kinds in each class
pub record AreClasses (classes : Classes) : Type 0 where
  pub operators : (kind : ℕ) → has classes.operators kind ≡ list_any (λ one. one == kind) operators
  pub punctuation : (kind : ℕ) → has classes.punctuation kind ≡ list_any (λ one. one == kind) punctuation
  pub reserved_keywords : (kind : ℕ) → has classes.reserved_keywords kind ≡ is_kind_of Reserved kind
  pub col_name_keyword_first : (kind : ℕ) → has classes.col_name_keyword_first kind ≡ is_kind_of ColName kind
  pub type_func_name_keywords : (kind : ℕ) → has classes.type_func_name_keywords kind ≡ is_kind_of TypeFuncName kind

-- a vocabulary knows the keywords and the contextual ones in whatever case their letters are; its classes are these
pub record KnowsKeywords (v : Keywords) : Type 0 where
  pub keyword : (text : List ℕ) → keyword_of v text ≡ kind_of_word_ignoring_case keyword_kinds text
  pub contextual_keyword : (text : List ℕ) → contextual_keyword_of v text ≡ kind_of_word_ignoring_case contextual_kinds text
  pub all_keywords : (kind : ℕ) → has (all_keywords_of v) kind ≡ has_kind keyword_kinds kind
  pub contextual_keywords : (kind : ℕ) → has (contextual_keywords_of v) kind ≡ has_kind contextual_kinds kind
  pub classes : AreClasses (classes_of v)
