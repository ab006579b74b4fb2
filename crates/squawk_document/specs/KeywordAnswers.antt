-- The answers of a document's vocabulary.
use Rattle.squawk_kinds.specs.TokenSets.{has}
use Rattle.squawk_keywords.specs.KeywordAnswers.{all_keywords_of, contextual_keyword_of, contextual_keywords_of, keyword_of}
use Rattle.squawk_keywords.specs.declared.keywords.Keywords.{Keywords}
use Rattle.squawk_document.specs.KeywordPairs.{VocabularyAnswers}

-- the answers of two lists of words
abbrev pub answers : Keywords → VocabularyAnswers
answers lists = record {
  keywords = record { kind_of = keyword_of lists; kinds = has (all_keywords_of lists) };
  contextual = record { kind_of = contextual_keyword_of lists; kinds = has (contextual_keywords_of lists) };
}
