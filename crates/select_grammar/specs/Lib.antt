pub mod Keywords
pub mod Operators
