pub mod Kinds
pub mod Constants
pub mod TokenSets
pub mod Keywords
pub mod KindNames
pub mod FirstSlots
pub mod EngineNames
