pub mod Parts
pub mod Errors
pub mod Derivations
