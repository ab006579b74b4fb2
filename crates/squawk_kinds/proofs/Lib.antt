pub mod TokenSetLemmas
pub mod TokenKinds
pub mod ConstantSets
pub mod FirstPairs
