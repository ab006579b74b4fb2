pub mod Separators
pub mod Reading
pub mod DeepLists
pub mod Written
pub mod Examples
