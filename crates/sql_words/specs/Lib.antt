pub mod PostgresKeywords
pub mod SqlKinds
pub mod SqlVocabulary
