pub mod ReadErrors
pub mod Readers
pub mod Windows
