mod KeywordPairLemmas
mod KindLemmas
mod OrderLemmas
mod SortedWordLemmas
mod ComparedLemmas
mod LowerCaseLemmas
mod TextKeyLemmas
mod WordSlotLemmas
mod TakenSlotLemmas
mod AgreeLemmas
pub mod ReadyLemmas
