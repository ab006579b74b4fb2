-- What the calls of a vocabulary of lists of words return.
use Rattle.std.specs.Prelude.{◌≡◌, ℕ, List, Result, Ok, Err}
use Rattle.squawk_kinds.specs.Keywords.{Keywords as KindsOfTexts}
use Rattle.squawk_kinds.specs.TokenSets.{has, no_kinds}
use Rattle.squawk_kinds.specs.declared.token_set.TokenSet.{TokenSet}
use Rattle.squawk_keywords.specs.KeywordPairs.{AreKeywords, IsFirstOther, has_kind, pairs_of}
use Rattle.squawk_keywords.specs.LetterCase.{kind_by}
use Rattle.squawk_keywords.specs.declared.classes.Classes.{Classes}
use Rattle.squawk_keywords.specs.declared.keywords.Keywords.{Keywords}
use Rattle.squawk_keywords.specs.declared.keywords_error.KeywordsError.{KeywordsError}
use Rattle.squawk_keywords.specs.declared.keywords_error.KeywordsError.TheVariants.{Keyword, Contextual, OutOfMemory}
use Rattle.squawk_keywords.specs.declared.word_list.WordList.{WordList}

-- ---- answers

-- the kind that a list gives a text
abbrev pub kind_in : WordList → KindsOfTexts
kind_in list = kind_by list.ignores_case (pairs_of list.words.items)

-- the keyword that a text is
abbrev pub keyword_of : Keywords → KindsOfTexts
keyword_of v = kind_in v.keywords

-- the keyword that a text is where the grammar requires it
abbrev pub contextual_keyword_of : Keywords → KindsOfTexts
contextual_keyword_of v = kind_in v.contextual

-- the kinds of all keywords
abbrev pub all_keywords_of : Keywords → TokenSet
all_keywords_of v = v.keywords.set

-- the kinds of contextual keywords
abbrev pub contextual_keywords_of : Keywords → TokenSet
contextual_keywords_of v = v.contextual.set

-- the kinds of tokens that make up each class
abbrev pub classes_of : Keywords → Classes
classes_of v = v.classes

-- no kind is in a class
abbrev pub no_classes : Classes
no_classes = record {
  operators = no_kinds;
  punctuation = no_kinds;
  reserved_keywords = no_kinds;
  col_name_keyword_first = no_kinds;
  type_func_name_keywords = no_kinds;
}

-- ---- vocabularies of lists

-- a vocabulary is that of these two lists, whose words have kinds in one way, and has no classes
pub record AnswersBy (kind_of : List (List ℕ × ℕ) → KindsOfTexts) (keywords contextual : List (List ℕ × ℕ)) (v : Keywords) : Type 0 where
  pub keyword : (text : List ℕ) → keyword_of v text ≡ kind_of keywords text
  pub contextual_keyword : (text : List ℕ) → contextual_keyword_of v text ≡ kind_of contextual text
  pub all_keywords : (kind : ℕ) → has (all_keywords_of v) kind ≡ has_kind keywords kind
  pub contextual_keywords : (kind : ℕ) → has (contextual_keywords_of v) kind ≡ has_kind contextual kind
  pub classes : classes_of v ≡ no_classes

-- the result of making a vocabulary of two lists: it is theirs if each word has a keyword's kind; or the first that has none
abbrev pub IsMadeOf : (List (List ℕ × ℕ) → KindsOfTexts) → List (List ℕ × ℕ) → List (List ℕ × ℕ) → Result Keywords KeywordsError → Type 0
IsMadeOf kind_of keywords contextual (Ok v) = AreKeywords keywords × AreKeywords contextual × AnswersBy kind_of keywords contextual v
IsMadeOf kind_of keywords contextual (Err (Keyword i)) = IsFirstOther keywords i
IsMadeOf kind_of keywords contextual (Err (Contextual i)) = AreKeywords keywords × IsFirstOther contextual i
IsMadeOf kind_of keywords contextual (Err OutOfMemory) = AreKeywords keywords × AreKeywords contextual

-- a vocabulary is as before, but has these classes
pub record HasClasses (old : Keywords) (given : Classes) (new : Keywords) : Type 0 where
  pub keyword : keyword_of new ≡ keyword_of old
  pub contextual_keyword : contextual_keyword_of new ≡ contextual_keyword_of old
  pub all_keywords : all_keywords_of new ≡ all_keywords_of old
  pub contextual_keywords : contextual_keywords_of new ≡ contextual_keywords_of old
  pub classes : classes_of new ≡ given
