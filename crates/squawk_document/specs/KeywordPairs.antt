-- The words of a vocabulary, with their kinds.
use Rattle.std.specs.Prelude.{ℕ, ◌==◌, Bool, List, Result, Ok, Err, codes, if◌then◌else◌}
use Rattle.serde_json.specs.Data.{Data}
use Rattle.squawk_kinds.specs.Keywords.{Keywords}
use Rattle.squawk_kinds.specs.Kinds.{COMMENT}
use Rattle.squawk_keywords.specs.KeywordPairs.{has_kind, kind_of_word}
use Rattle.squawk_document.specs.declared.document_error.DocumentError.{DocumentError}
use Rattle.squawk_document.specs.declared.document_error.DocumentError.TheVariants.{Shape}
use Rattle.squawk_document.specs.Values.{◌>>=◌, each, has_members, items_in, member_in, number_in, pair_in, string_in}

-- ---- what is read

-- a keyword's kind
abbrev pub keyword_kind_in : Data → Result ℕ DocumentError
keyword_kind_in d = number_in 2 638 d >>= λ kind. if kind == COMMENT then Err Shape else Ok kind

-- a word and its kind
abbrev pub keyword_in : Data → Result (List ℕ × ℕ) DocumentError
keyword_in d = pair_in d >>= λ pair. string_in pair.0 >>= λ word. keyword_kind_in pair.1 >>= λ kind. Ok (word, kind)

-- words with their kinds
abbrev pub keyword_list_in : Data → Result (List (List ℕ × ℕ)) DocumentError
keyword_list_in d = items_in d >>= λ items. each keyword_in items

-- the two lists of a vocabulary
pub record Lists : Type 0 where
  pub keywords : List (List ℕ × ℕ)
  pub contextual : List (List ℕ × ℕ)

-- an object with these two members and no other
abbrev pub vocabulary_in : Data → Result Lists DocumentError
vocabulary_in d = has_members 2 d
    >>= λ object. member_in (codes "keywords") object
    >>= λ keywords. member_in (codes "contextual") object
    >>= λ contextual. keyword_list_in keywords
    >>= λ keywords. keyword_list_in contextual
    >>= λ contextual. Ok (record { keywords = keywords; contextual = contextual })

-- ---- what it means

-- the answers of a list
pub record ListAnswers : Type 0 where
  pub kind_of : Keywords
  pub kinds : ℕ → Bool

-- the answers of these pairs
abbrev pub list_answers : List (List ℕ × ℕ) → ListAnswers
list_answers pairs = record { kind_of = kind_of_word pairs; kinds = has_kind pairs }

-- the answers of a vocabulary
pub record VocabularyAnswers : Type 0 where
  pub keywords : ListAnswers
  pub contextual : ListAnswers

-- the answers of the two lists
abbrev pub answers_of : Lists → VocabularyAnswers
answers_of lists = record { keywords = list_answers lists.keywords; contextual = list_answers lists.contextual }

-- the answers of the two lists that are read
abbrev pub answered : Result Lists DocumentError → Result VocabularyAnswers DocumentError
answered reading = reading >>= λ lists. Ok (answers_of lists)
