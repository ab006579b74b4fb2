pub mod KeywordPairs
pub mod LetterCase
pub mod TextKeys
pub mod WordSlots
pub mod ReadyWords
pub mod ErrorLines
pub mod KeywordAnswers
