pub mod TableLemmas
pub mod VocabularyLemmas
